-- A turn of post-generation at work, as its state is seen.
use Rattle.std.specs.Prelude.{◌≡◌, ◌⊎◌, ℕ, ◌+◌, ◌<◌, ◌≤◌, Bool, true, false, List, [], ◌∷◌, ◌++◌, drop, length, Option, Some, None, IfSome, Result, Ok, Err, OnOk, OnErr}
use Rattle.std.specs.List.{AllByRecursion}
use Rattle.std.proofs.Common.{arith, refl, ap, sym, ◌∙◌, subst, get_or, inl, inr}
use Rattle.std.proofs.lemmas.List.{append-nil}
use Rattle.ap_fst.specs.Sections.{Parts, IsCompiled}
use Rattle.ap_stream.specs.Limits.{span_max, stage_max}
use Rattle.ap_stream.specs.Reading.{IsRead}
use Rattle.ap_stream.specs.Spelling.{spelled}
use Rattle.ap_stream.specs.Steps.{Gives, bytes_of}
use Rattle.ap_stream.specs.Told.{silent, behind, ends_in}
use Rattle.ap_stream.specs.declared.dialect.Dialect.TheVariants.{Generated}
use Rattle.ap_stream.specs.declared.fault.LimitKind.{LimitKind}
use Rattle.ap_stream.specs.declared.fault.LimitKind.TheVariants.{SpanTooLong}
use Rattle.ap_stream.specs.declared.fault.StreamFault.TheVariants.{Limit}
use Rattle.ap_stream.specs.declared.item.Item.{Item}
use Rattle.ap_stream.specs.declared.item.Read.{Read}
use Rattle.ap_stream.proofs.StepLaws.{Settles, steps_none, turn_wrote, turn_limit, turn_overlong, fewer_left, fewer_bytes, all_pushed, bytes_append}
use Rattle.ap_live.specs.Lexicon.{Lexicon, IsCoherent, lexicon_of}
use Rattle.ap_live.proofs.Coherence.{coherent}
use Rattle.ap_lookup.specs.Matching.{fitting}
use Rattle.ap_lookup.specs.PostGenerating.{symbols, begins_alarm, span, copied, post_step}
use Rattle.ap_lookup.specs.PostWorks.{Posting, post_generated, post_work, meant, IsCopied}
use Rattle.ap_lookup.specs.PostSearching.{IsSearch, IsFound, IsFirstPlace}
use Rattle.ap_lookup.specs.declared.post_search.Found.{Found}
use Rattle.ap_lookup.specs.declared.post_search.Search.{Search}
use Rattle.ap_lookup.specs.declared.post_writing.Written.{Written}
use Rattle.ap_lookup.specs.declared.post_writing.Written.TheVariants as code
use Rattle.ap_lookup.proofs.PostSearches.{search_more}
use Rattle.ap_lookup.proofs.PostSizes.{step_used}
use Rattle.ap_lookup.proofs.PostSteps.{settles, span_alarm, span_bare, step_bare}

pub coherent_seen : (inside : Parts) (now : Posting) → inside ≡ now.compiled → IsCompiled inside →
    IsCoherent (lexicon_of now.compiled now.sensitive)
coherent_seen inside now e compiled =
    coherent now.compiled now.sensitive (subst (λ (p : Parts). IsCompiled p) e compiled)

abbrev pub lexicon_at : Posting → Lexicon
lexicon_at h = lexicon_of h.compiled h.sensitive

-- the span ended among the held items, or none follow
abbrev pub IsSettled : Posting → Type 0
IsSettled h = (span (lexicon_at h) h.items < length h.items) ⊎ (h.finished ≡ true)

-- a step of the code is the first step
abbrev pub IsFirstStep : Posting → Written → Type 0
IsFirstStep h made = (meant made ≡ post_step (lexicon_at h) h.sensitive h.items) × IsSettled h

pub step_is : (h : Posting) (step : Option Written) (made is : Written) → step ≡ Some made →
    made ≡ is → IfSome step (IsFirstStep h) → IsFirstStep h is
step_is h None made is some e first = absurd (cc)
step_is h (Some other) made is some e first = let same : other ≡ is = cc in
    subst (λ (m : Written). IsFirstStep h m) same first

pub over_silent : (lexicon : Lexicon) (sensitive : Bool) (items : List Read) → length items ≡ 0 →
    post_generated lexicon sensitive (items ++ []) ≡ silent
over_silent lexicon sensitive [] e = steps_none (post_step lexicon sensitive)
over_silent lexicon sensitive (read ∷ reads) e = absurd (omega arith)

module _ (h : Posting) (whole : IsCoherent (lexicon_at h)) (some : 0 < length h.items) where
  settling : Settles (post_step (lexicon_at h) h.sensitive) (span (lexicon_at h))
  settling = settles (lexicon_at h) h.sensitive whole

  pub turned_limit : (kind : LimitKind) (place : ℕ) → IsFirstPlace h.items place →
      IsFirstStep h (code.Stops kind) → (xs : List Read) → (h.finished ≡ true → xs ≡ []) →
      post_work h xs ≡ ends_in [] (Limit kind place)
  turned_limit kind place f first xs last =
      turn_limit (post_step (lexicon_at h) h.sensitive) (span (lexicon_at h)) settling h.items xs
      kind f.first f.first h.finished some f.is (sym first.0) first.1 last
      ∙ ap (λ (n : ℕ). ends_in [] (Limit kind n)) (sym f.place_is)

  pub turned_overlong : (place : ℕ) → IsFirstPlace h.items place → span (lexicon_at h) h.items
      ≡ length h.items → span_max < bytes_of h.items → (xs : List Read) →
      post_work h xs ≡ ends_in [] (Limit SpanTooLong place)
  turned_overlong place f all long xs =
      turn_overlong (post_step (lexicon_at h) h.sensitive) (span (lexicon_at h)) settling h.items xs
      f.first f.first some f.is all long
      ∙ ap (λ (n : ℕ). ends_in [] (Limit SpanTooLong n)) (sym f.place_is)

  module _ (count : ℕ) (text : List ℕ) (all : AllByRecursion (IsRead Generated) h.items)
      (first : IsFirstStep h (code.Gives count text)) where
    pub turned_within : count ≤ length h.items
    turned_within = (step_used (lexicon_at h) h.sensitive h.items count text whole some all
        (sym first.0)).within

    pub turned_wrote : (after : Posting) (into new : List ℕ) → after.items ≡ drop count h.items →
        after.compiled ≡ h.compiled → after.sensitive ≡ h.sensitive → after.finished ≡ h.finished →
        new ≡ into ++ text
        → (given : List ℕ) × (new ≡ into ++ given) × (length given ≤ stage_max)
        × (length after.items < length h.items) × (bytes_of after.items < bytes_of h.items)
        × (Generated ≡ Generated) × (after.finished ≡ h.finished)
        × ((xs : List Read) → (h.finished ≡ true → xs ≡ []) → behind given (post_work after xs)
        ≡ post_work h xs)
    turned_wrote after into new i k s f e =
        let used = step_used (lexicon_at h) h.sensitive h.items count text whole some all
        (sym first.0) in
        let fewer = fewer_left h.items count used.some used.within in
        let bytes = fewer_bytes Generated h.items count all used.some used.within in (
          text,
          e,
          used.short,
          rw i fewer,
          rw i bytes,
          refl,
          f,
          λ xs last. rw (i, k, s) (turn_wrote (post_step (lexicon_at h) h.sensitive)
              (span (lexicon_at h)) settling h.items xs count text h.finished some used.some
              used.within (sym first.0) first.1 last),
        )

-- the first item is no alarm, and was copied
pub turned_bare : (h : Posting) (text : List ℕ) → 0 < length h.items →
    begins_alarm h.items ≡ false → copied h.items ≡ Gives 1 text →
    IsFirstStep h (code.Gives 1 text)
turned_bare h text some bare e =
    let none = span_bare (lexicon_at h) h.items bare in (
      sym (step_bare (lexicon_at h) h.sensitive h.items bare ∙ e),
      inl (omega (arith, none, some)),
    )

-- A step as the code takes it: the items are seen as a slice.

pub copied_is : (items slice : List Read) (d : Read) (before after : List ℕ) → slice ≡ items →
    0 < length items → after ≡ before ++ spelled (get_or slice 0 d).item →
    IsCopied items before after
copied_is [] slice d before after e some is = absurd (omega arith)
copied_is (read ∷ reads) slice d before after e some is =
    let first : (get_or slice 0 d).item ≡ read.item =
    ap (λ (z : List Read). (get_or z 0 d).item) e in (
      spelled read.item,
      ap (Gives 1) (append-nil (spelled read.item)),
      is ∙ ap (λ (t : Item). before ++ spelled t) first,
    )

module _ (lexicon : Lexicon) (items slice : List Read) (same : slice ≡ items)
    (alarm : begins_alarm items ≡ true) where
  pub span_all : fitting lexicon (symbols slice) ≡ length slice → span lexicon items ≡ length items
  span_all e = span_alarm lexicon items alarm
      ∙ ap (λ (z : List Read). fitting lexicon (symbols z)) (sym same) ∙ e ∙ ap length same

  module _ (finished : Bool) (found : Found) (is : IsFound lexicon slice finished found) where
    pub span_found : found.span ≡ span lexicon items
    span_found = is.span_is ∙ ap (λ (z : List Read). fitting lexicon (symbols z)) same
        ∙ sym (span_alarm lexicon items alarm)

    pub settled_found : (span lexicon items < length items) ⊎ (finished ≡ true)
    settled_found = elim is.settled [
      | inl lt ↦ inl (let l = ap length same in omega (arith, lt, l, span_found))
      | inr last ↦ inr last
    ]

pub found_in : (lexicon : Lexicon) (slice : List Read) (finished : Bool) (look : Option Found)
    (found : Found) → look ≡ Some found → IfSome look (IsFound lexicon slice finished) →
    IsFound lexicon slice finished found
found_in lexicon slice finished None found e is = absurd (cc)
found_in lexicon slice finished (Some other) found e is = let same : other ≡ found = cc in
    subst (λ (f : Found). IsFound lexicon slice finished f) same is

-- An item more, or none for want of memory.

abbrev pub IsWork : Parts → Bool → Search → List Read → Type 0
IsWork p sensitive search items = AllByRecursion (IsRead Generated) items
    × IsSearch p sensitive items search

pub work_pushed : {T E : Type 0} (r : Result T E) (p : Parts) (sensitive : Bool) (search : Search)
    (items new : List Read) (read : Read) → IsRead Generated read →
    OnOk r (new ≡ items ++ read ∷ []) → OnErr r (new ≡ items) → IsWork p sensitive search items →
    IsWork p sensitive search new
work_pushed (Ok x) p sensitive search items new read is ok err work =
    subst (λ (z : List Read). IsWork p sensitive search z) (sym ok) (
      all_pushed (IsRead Generated) items read work.0 is,
      search_more p sensitive items (read ∷ []) search work.1,
    )
work_pushed (Err x) p sensitive search items new read is ok err work =
    subst (λ (z : List Read). IsWork p sensitive search z) (sym err) work

pub bytes_on : {T E : Type 0} (r : Result T E) (items now new : List Read) (read : Read) →
    items ≡ now → OnOk r (new ≡ items ++ read ∷ []) →
    OnOk r (bytes_of new ≡ bytes_of now + read.size)
bytes_on (Ok x) items now new read e ok =
    let a = bytes_append items (read ∷ []) in
    let b : bytes_of (items ++ read ∷ []) ≡ bytes_of items + read.size = omega (arith, a) in
    ap bytes_of ok ∙ b ∙ ap (λ (z : List Read). bytes_of z + read.size) e
bytes_on (Err x) items now new read e ok = ok
