-- A word is kept by a bilingual dictionary where what its sections accept reads it so.
use Rattle.std.proofs.Common.{◌≡◌, inl, inr, ◌⊎◌, ℕ, ◌<◌, ◌≤◌, Bool, true, false, List, [], ◌∷◌, ◌++◌, length, take, refl, sym, ◌∙◌, ap, subst, arith, Option, Some, None}
use Rattle.std.specs.Prelude.{◌↔◌, IsTrue, nat_le, ◌||◌}
use Rattle.std.specs.Option.{option_to_list}
use Rattle.std.proofs.lemmas.Bool.{and_parts, cases_Bool, cases_lt, true≢false}
use Rattle.std.proofs.lemmas.Bool.Decides.{nat_tests}
use Rattle.ap_symbol.specs.Fitting.{lists_fit}
use Rattle.ap_symbol.specs.Kinds.{is_mark, is_marked}
use Rattle.ap_symbol.specs.Lists.{IsIn}
use Rattle.ap_symbol.specs.declared.symbol.Symbol.{Symbol}
use Rattle.ap_symbol.specs.declared.symbol.Symbol.TheVariants.{Letter, Tag, Blank, Join, Queue, Alarm, Star, At}
use Rattle.ap_fst.specs.Machines.{Machine}
use Rattle.ap_fst.specs.Sections.{Parts, IsSection, IsCompiled, section_of, is_plain_side}
use Rattle.ap_fst.specs.Sides.{left_word, right_word}
use Rattle.ap_fst.specs.Walks.{Walk, ends, goes, AcceptsLabels}
use Rattle.ap_fst.specs.declared.compiled.Kind2.{Kind2}
use Rattle.ap_fst.specs.declared.compiled.Kind2.TheVariants.{Standard, Inconditional, Postblank, Preblank}
use Rattle.ap_fst.specs.declared.label.Label.{Label}
use Rattle.ap_fst.proofs.Listing.{in_from_place}
use Rattle.ap_live.specs.Found.{has_words}
use Rattle.ap_live.specs.Lexicon.{Lexicon, lexicon_of, inputs_of}
use Rattle.ap_live.specs.Outputs.{IsOutput}
use Rattle.ap_live.specs.Readings.{any_words}
use Rattle.ap_live.proofs.AnyWords.{some_append}
use Rattle.ap_live.proofs.Coherence.{fits_same}
use Rattle.ap_live.proofs.Finding.{found_is_output, output_there}
use Rattle.ap_live.proofs.Greatest.{greatest_within, greatest_passes}
use Rattle.ap_live.proofs.WordOrder.{some_word}
use Rattle.ap_lookup.specs.Laws.{IsPrefix, HasNone}
use Rattle.ap_lookup.specs.Matching.{is_match}
use Rattle.ap_lookup.specs.Translation.{lemma_length, prefix, translation}
use Rattle.ap_lookup.proofs.Prefixes.{no_head}
use Rattle.ap_lookup.proofs.Translations.{translation_none}
use Rattle.ap_trim.specs.Reading.{ReadsWhole, AcceptsAny, IsUnion}
use Rattle.ap_trim.specs.Sections.{IsKeptOf}
use Rattle.ap_trim.specs.Trimming.{holds_joint, is_translated, is_kept, Trimmed}
use Rattle.ap_trim.specs.Watching.{TakesFront, IsTaken, IsKeptBy}

pub section_at : (p : Parts) (kind : Kind2) → IsCompiled p → IsSection (section_of p kind)
section_at p Standard c = c.standard_is
section_at p Inconditional c = c.inconditional_is
section_at p Postblank c = c.postblank_is
section_at p Preblank c = c.preblank_is

-- ---- a word without marks

plain_unmarked : (x : Symbol) → is_plain_side (Some x) ≡ true → is_mark x ≡ false
plain_unmarked (Letter c) h = refl
plain_unmarked (Tag name) h = refl
plain_unmarked Blank h = refl
plain_unmarked Join h = refl
plain_unmarked Queue h = refl
plain_unmarked Alarm h = refl
plain_unmarked Star h = cc
plain_unmarked At h = cc

side_unmarked : (o : Option Symbol) (word : List Symbol) → is_plain_side o ≡ true →
    is_marked word ≡ false → is_marked (option_to_list o ++ word) ≡ false
side_unmarked None word p h = h
side_unmarked (Some x) word p h = plain_unmarked x p

pub walk_unmarked : (m : Machine) → IsSection m → (s t : ℕ) (w : List Label) → Walk m.edges s w t →
    is_marked (right_word w) ≡ false
walk_unmarked m sec s t w (ends e) = refl
walk_unmarked m sec s t w (goes {labels = labels} j e at from whole rest) =
    let plain = and_parts (is_plain_side e.label.left) (is_plain_side e.label.right)
    (sec.plain e (in_from_place m.edges j e at)) in
    ap (λ (z : List Label). is_marked (right_word z)) whole ∙
    side_unmarked e.label.right (right_word labels) plain.1
    (walk_unmarked m sec e.to t labels rest)

-- ---- a word that some section reads

pub record IsRead (lexicon : Lexicon) (word : List Symbol) : Type 0 where
  pub kind : Kind2
  pub right : List Symbol
  pub read : IsIn right (lexicon.readings kind word)

of_kind : (lexicon : Lexicon) (word : List Symbol) (kind : Kind2) →
    has_words (lexicon.readings kind word) ≡ true → IsRead lexicon word
of_kind lexicon word kind h = let s = some_word (lexicon.readings kind word) h in
    record { kind = kind; right = s.0; read = s.1 }

some_kind : (lexicon : Lexicon) (word : List Symbol) → has_words (any_words lexicon word) ≡ true →
    IsRead lexicon word
some_kind lexicon word h = elim (some_append (lexicon.readings Standard word) _ h) [
  | inl s ↦ of_kind lexicon word Standard s
  | inr r ↦ elim (some_append (lexicon.readings Inconditional word) _ r) [
    | inl s ↦ of_kind lexicon word Inconditional s
    | inr q ↦ elim (some_append (lexicon.readings Postblank word) _ q) [
      | inl s ↦ of_kind lexicon word Postblank s
      | inr s ↦ of_kind lexicon word Preblank s
    ]
  ]
]

nothing_fits : (left : List Symbol) → lists_fit false left [] ≡ true → left ≡ []
nothing_fits [] h = refl
nothing_fits (x ∷ left) h = cc

module _ (p : Parts) (u : Machine) (compiled : IsCompiled p) (union : IsUnion p u) where
  read_of : (word : List Symbol) → ReadsWhole u word → IsRead (lexicon_of p false) word
  read_of word r =
      let a : AcceptsAny p r.labels = (union r.labels).0 r.accepted in
      let sec : IsSection (section_of p a.kind) = section_at p a.kind compiled in
      let o : IsOutput (section_of p a.kind) (inputs_of false word) (right_word r.labels) =
      record {
        labels = r.labels;
        accepted = a.accepted;
        fit =
            fits_same false (left_word r.labels) word ∙ r.fit;
        is = refl;
      } in
      of_kind (lexicon_of p false) word a.kind ((output_there (section_of p a.kind)
      (inputs_of false word) sec.sound sec.cycles).1 (right_word r.labels, o))

  of_read : (word : List Symbol) → IsRead (lexicon_of p false) word → ReadsWhole u word
  of_read word r =
      let o : IsOutput (section_of p r.kind) (inputs_of false word) r.right =
      found_is_output (section_of p r.kind) (inputs_of false word) r.right r.read in
      record {
        labels = o.labels;
        accepted = (union o.labels).1
            (record { kind = r.kind; accepted = o.accepted });
        fit =
            sym (fits_same false (left_word o.labels) word) ∙ o.fit;
      }

  nothing_read : ReadsWhole u [] → ⊥
  nothing_read r =
      let a : AcceptsAny p r.labels = (union r.labels).0 r.accepted in
      (section_at p a.kind compiled).sides (record {
        labels = r.labels;
        accepted = a.accepted;
        empty = nothing_fits (left_word r.labels) r.fit;
      })

  some_front : (word : List Symbol) (n : ℕ) → TakesFront u word n → 0 < n
  some_front word n f = elim (cases_lt 0 n) [
    | inl lt ↦ lt
    | inr ge ↦ let none : n ≡ 0 = omega (arith, ge) in absurd
        (nothing_read (subst (λ (z : ℕ). ReadsWhole u (take z word)) none f.whole))
  ]

  prefix_of : (word : List Symbol) (t : IsTaken u word) → IsPrefix (lexicon_of p false) word t.count
  prefix_of word t =
      let r : IsRead (lexicon_of p false) (take t.count word) =
      read_of (take t.count word) t.front.whole in
      record {
        some = some_front word t.count t.front;
        within = t.within;
        whole = t.front.lemma;
        kind = r.kind;
        right = r.right;
        read = r.read;
      }

  module _ (word : List Symbol) (clean : is_marked word ≡ false) where
    no_none : IsTaken u word → HasNone (lexicon_of p false) word → ⊥
    no_none t (inl marked) = true≢false (sym marked ∙ clean)
    no_none t (inr none) = none t.count (prefix_of word t)

    headless : (heads : List (List Symbol)) → has_words heads ≡ false → heads ≡ []
    headless [] h = refl
    headless (x ∷ heads) h = cc

    translated_of : IsTaken u word → is_translated (lexicon_of p false) word ≡ true
    translated_of t = elim (cases_Bool (is_translated (lexicon_of p false) word)) [
      | inl h ↦ h
      | inr h ↦ absurd (no_none t ((no_head (lexicon_of p false) word false).0
          (headless (translation (lexicon_of p false) false word).heads h)))
    ]

    taken_by : (n : ℕ) → prefix (lexicon_of p false) word ≡ n →
        is_match (lexicon_of p false) (lemma_length word) word n ≡ true → IsTaken u word
    taken_by n e h =
        let both = and_parts (nat_le (lemma_length word) n)
        (has_words (any_words (lexicon_of p false) (take n word))) h in
        let within : prefix (lexicon_of p false) word ≤ length word =
        greatest_within (is_match (lexicon_of p false) (lemma_length word) word) (length word)
        in
        let whole : lemma_length word ≤ n = let b : nat_le (lemma_length word) n ≡ true = both.0 in
        grind (arith, nat_tests) in
        record {
          count = n;
          within = omega (arith, within, e);
          front =
              record {
                lemma = whole;
                whole = of_read (take n word)
                    (some_kind (lexicon_of p false) (take n word) both.1);
              };
        }

    taken_of : is_translated (lexicon_of p false) word ≡ true → IsTaken u word
    taken_of h = elim (greatest_passes (is_match (lexicon_of p false) (lemma_length word) word)
        (length word)) [
          | inl none ↦ absurd (true≢false (sym h ∙ ap (λ t. has_words t.heads)
              (sym (translation_none (lexicon_of p false) false word clean none))))
          | inr passes ↦ taken_by (prefix (lexicon_of p false) word) refl passes
        ]

    or_left : (a b : Bool) → a ≡ true → (a || b) ≡ true
    or_left true b h = refl
    or_left false b h = cc

    or_right : (a b : Bool) → b ≡ true → (a || b) ≡ true
    or_right true b h = refl
    or_right false b h = h

    or_either : (a b : Bool) → (a || b) ≡ true → (a ≡ true) ⊎ (b ≡ true)
    or_either true b h = inl refl
    or_either false b h = inr h

    pub kept_same : IsKeptBy u word ↔ IsTrue (is_kept (lexicon_of p false) word)
    kept_same = (
      λ k. elim k [
        | inl j ↦ or_left (holds_joint word) (is_translated (lexicon_of p false) word) j
        | inr t ↦ or_right (holds_joint word) (is_translated (lexicon_of p false) word)
            (translated_of t)
      ],
      λ k. elim (or_either (holds_joint word) (is_translated (lexicon_of p false) word) k) [
        | inl j ↦ inl j
        | inr t ↦ inr (taken_of t)
      ],
    )

-- what is kept of a section is what is trimmed
pub trimmed_as : (mono bilingual : Parts) (u section made : Machine) (kind : Kind2) →
    IsCompiled mono → IsCompiled bilingual → IsUnion bilingual u → section ≡ section_of mono kind →
    IsKeptOf section u made → (labels : List Label) → AcceptsLabels made labels ↔
    Trimmed mono bilingual kind labels
trimmed_as mono bilingual u section made kind cm cb union e kept labels =
    let own : IsKeptOf (section_of mono kind) u made = subst (λ (z : Machine). IsKeptOf z u made) e
    kept in
    let sec : IsSection (section_of mono kind) = section_at mono kind cm in (
      λ a.
          let k = (own labels).0 a in
          let clean : is_marked (right_word labels) ≡ false =
          walk_unmarked (section_of mono kind) sec 0 k.0.last labels k.0.walk in
          (k.0, (kept_same bilingual u cb union (right_word labels) clean).0 k.1),
      λ t.
          let clean : is_marked (right_word labels) ≡ false =
          walk_unmarked (section_of mono kind) sec 0 t.0.last labels t.0.walk in
          (own labels).1 (t.0, (kept_same bilingual u cb union (right_word labels) clean).1 t.1),
    )

pub all_kinds : (P : Kind2 → Type 0) → P Standard → P Inconditional → P Postblank → P Preblank →
    (kind : Kind2) → P kind
all_kinds P a b c d Standard = a
all_kinds P a b c d Inconditional = b
all_kinds P a b c d Postblank = c
all_kinds P a b c d Preblank = d
