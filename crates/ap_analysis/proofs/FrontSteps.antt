-- Steps that are kept by bytes: when a new one is true.
use Rattle.std.specs.Prelude.{◌≡◌, ◌⊎◌, ℕ, suc, zero, ◌+◌, ◌*◌, ◌<◌, ◌≤◌, Bool, true, false, ◌==◌, List, [], ◌∷◌, ◌++◌, length, take, drop, refl, Some}
use Rattle.std.proofs.Common.{arith, ap, sym, ◌∙◌, subst, inl, inr, get_or}
use Rattle.std.proofs.lemmas.Bool.{cases_lt}
use Rattle.std.proofs.lemmas.Bool.Decides.{nat_tests}
use Rattle.std.proofs.lemmas.List.{length-take, length-append, take-append-drop, take-map, drop-map, take_all, length-map, take-take}
use Rattle.std.proofs.Math.Seq.{take-add}
use Rattle.ap_symbol.specs.Words.{is_white as white_letter}
use Rattle.ap_symbol.specs.declared.symbol.Symbol.{Symbol}
use Rattle.ap_stream.specs.Bare.{bare_item, bare_items, bare_run}
use Rattle.ap_stream.specs.Blanks.{is_white}
use Rattle.ap_stream.specs.Spelling.{spelled}
use Rattle.ap_stream.specs.Steps.{Gives, bytes_of}
use Rattle.ap_stream.specs.declared.item.Read.{Read}
use Rattle.ap_stream.proofs.BareReads.{items_size}
use Rattle.ap_stream.proofs.ItemFronts.{front_short, front_ends, front_goes_on, front_more}
use Rattle.ap_live.specs.Lexicon.{Lexicon, IsCoherent}
use Rattle.ap_analysis.specs.Items.{symbol_of, symbols}
use Rattle.ap_analysis.specs.Endings.{is_ending, ending_symbol, IsOpen}
use Rattle.ap_analysis.specs.Entries.{IsStep}
use Rattle.ap_analysis.specs.Fronts.{byte_marks, byte_read, byte_reads, AreRead}
use Rattle.ap_analysis.specs.FrontSteps.{IsFrontStep, follows_key, step_of}
use Rattle.ap_analysis.specs.Searching.{IsFound}
use Rattle.ap_analysis.specs.declared.search.Found.{Found}
use Rattle.ap_analysis.specs.Kept.{mark_of, marks, begins_plain, has_superblank, IsWithinLimit}
use Rattle.ap_analysis.specs.Licence.{is_letter_symbol, begins_alphabetic, surface, licence, viable_length, unknown_length, span}
use Rattle.ap_analysis.specs.Analysis.{copied, step_within, first_step}
use Rattle.ap_analysis.proofs.Alike.{same_step, same_span, same_copied, all_in_limit}
use Rattle.ap_analysis.proofs.ByteFronts.{marks_are, bytes_are}
use Rattle.ap_analysis.proofs.Lengths.{span_is, span_within, unknown_run}
use Rattle.ap_analysis.proofs.Openings.{span_same, within_same}
use Rattle.ap_analysis.proofs.Steps.{within, step_copied}

-- Bytes as items.

pub read_marks : (bytes : List ℕ) → marks (byte_reads bytes) ≡ byte_marks bytes
read_marks [] = refl
read_marks (b ∷ bytes) = ap (λ (ms : List ℕ). mark_of (bare_item b) ∷ ms) (read_marks bytes)

pub read_bytes : (bytes : List ℕ) → bytes_of (byte_reads bytes) ≡ length bytes
read_bytes [] = refl
read_bytes (b ∷ bytes) = let k = read_bytes bytes in omega (arith, k)

pub read_count : (bytes : List ℕ) → length (byte_reads bytes) ≡ length bytes
read_count bytes = length-map bytes byte_read

joined : (a b : List ℕ) → byte_reads (a ++ b) ≡ byte_reads a ++ byte_reads b
joined [] b = refl
joined (x ∷ a) b = ap (λ (rs : List Read). byte_read x ∷ rs) (joined a b)

white_mark : (b : ℕ) → is_white b ≡ true → mark_of (bare_item b) ≡ 64
white_mark b w = let f : (b == 91) ≡ false = grind (arith, nat_tests) in rw w (rw f refl)

plain_mark : (b : ℕ) → is_white b ≡ false → mark_of (bare_item b) ≡ 2 * b
plain_mark b w = let f : white_letter b ≡ false = grind (arith, nat_tests) in rw w (rw f refl)

no_bracket_by : (b : ℕ) (t : Bool) → is_white b ≡ t → (mark_of (bare_item b) == 20) ≡ false
no_bracket_by b true w = rw (white_mark b w) refl
no_bracket_by b false w = rw (plain_mark b w) (grind (arith, nat_tests))

no_superblank : (n : ℕ) (bytes : List ℕ) → has_superblank (take n (byte_marks bytes)) ≡ false
no_superblank zero bytes = refl
no_superblank (suc n) [] = refl
no_superblank (suc n) (b ∷ bytes) =
    rw (no_bracket_by b (is_white b) refl) (no_superblank n bytes)

not_white : (b : ℕ) → white_letter b ≡ false → is_white b ≡ false
not_white b w = grind (arith, nat_tests)

plain_begins : (b : ℕ) (bytes : List ℕ) → white_letter b ≡ false →
    begins_plain (byte_marks (b ∷ bytes)) ≡ true
plain_begins b bytes w =
    let x : (2 * b == 18) ≡ false = grind (arith, nat_tests) in
    let y : (2 * b == 20) ≡ false = grind (arith, nat_tests) in
    let z : (2 * b == 64) ≡ false = grind (arith, nat_tests) in
    rw (plain_mark b (not_white b w)) (rw (x, y, z) refl)

marks_alike : (front bytes : List ℕ) (place m : ℕ) → take m bytes ≡ take m front →
    take m (marks (bare_items place bytes)) ≡ take m (marks (byte_reads front))
marks_alike front bytes place m same =
    ap (take m) (marks_are place bytes) ∙ take-map (λ b. mark_of (bare_item b)) m bytes
    ∙ ap byte_marks same ∙ sym (take-map (λ b. mark_of (bare_item b)) m front)
    ∙ ap (take m) (sym (read_marks front))

first_of : (b c : ℕ) → b ∷ [] ≡ c ∷ [] → b ≡ c
first_of b c e = cc

copied_alike : (place : ℕ) (front bytes : List ℕ) → 0 < length front →
    take 1 bytes ≡ take 1 front → copied (bare_items place bytes) ≡ copied (byte_reads front)
copied_alike place [] bytes some same = absurd (omega (arith, some))
copied_alike place (b ∷ front) [] some same = absurd (cc)
copied_alike place (b ∷ front) (c ∷ bytes) some same =
    ap (λ (d : ℕ). Gives 1 (spelled (bare_item d) ++ [])) (first_of c b same)

-- The items of some bytes take this step, and bytes with as long a front take it too.
module _ (lexicon : Lexicon) (sensitive : Bool) (whole : IsCoherent lexicon) (front : List ℕ)
    (s : ℕ) (spans : span lexicon (byte_reads front) ≡ s) (more : s < length front)
    (short : length front ≤ 258) (count : ℕ) (text : List ℕ)
    (gives : first_step lexicon sensitive (byte_reads front) ≡ Gives count text)
    (bytes : List ℕ) (same : take (s + 1) bytes ≡ take (s + 1) front) (few : length bytes ≤ 258)
    (place : ℕ) where
  long : s + 1 ≤ length bytes
  long = let e = ap length same in let t = length-take (s + 1) bytes in
      let u = length-take (s + 1) front in omega (arith, e, t, u, more)

  held : s + 1 ≤ length (bare_items place bytes)
  held = let n = items_size place bytes in omega (arith, n, long)

  first : s + 1 ≤ length (byte_reads front)
  first = let n = read_count front in omega (arith, n, more)

  beyond : span lexicon (byte_reads front) < s + 1
  beyond = omega (arith, spans)

  alike : take (s + 1) (marks (bare_items place bytes))
      ≡ take (s + 1) (marks (byte_reads front))
  alike = marks_alike front bytes place (s + 1) same

  ends_within : span lexicon (bare_items place bytes) < length (bare_items place bytes)
  ends_within =
      let e = same_span lexicon sensitive whole (byte_reads front) (bare_items place bytes) (s + 1)
      beyond first held alike in
      omega (arith, e, spans, held)

  limit_front : IsWithinLimit lexicon (byte_reads front)
  limit_front = all_in_limit lexicon (byte_reads front)
      (let n = read_bytes front in omega (arith, n, short))

  limit_bytes : IsWithinLimit lexicon (bare_items place bytes)
  limit_bytes = all_in_limit lexicon (bare_items place bytes)
      (let n = bytes_are place bytes in omega (arith, n, few))

  pub other_step : begins_plain (marks (byte_reads front)) ≡ true →
      IsStep lexicon sensitive (bare_items place bytes) count text
  other_step plain = (
    same_step lexicon sensitive whole (byte_reads front) (bare_items place bytes) (s + 1) beyond
        first held alike plain
        (ap (λ (ms : List ℕ). has_superblank (take (licence lexicon (byte_reads front)) ms))
        (read_marks front) ∙ no_superblank (licence lexicon (byte_reads front)) front)
        limit_front limit_bytes ∙ gives,
    ends_within,
  )

  pub copying_step : licence lexicon (byte_reads front) ≡ 0 →
      unknown_length lexicon (byte_reads front) ≡ 0 →
      first_step lexicon sensitive (byte_reads front) ≡ copied (byte_reads front) →
      IsStep lexicon sensitive (bare_items place bytes) count text
  copying_step l u copies = (
    same_copied lexicon sensitive whole (byte_reads front) (bare_items place bytes) (s + 1) beyond
        first held alike l u limit_bytes
        ∙ copied_alike place front bytes (omega (arith, more))
        (first_byte front bytes s same) ∙ sym copies ∙ gives,
    ends_within,
  )
    where
      first_byte : (front bytes : List ℕ) (s : ℕ) → take (s + 1) bytes ≡ take (s + 1) front →
          take 1 bytes ≡ take 1 front
      first_byte front bytes s same =
          let n : s + 1 ≡ suc s = omega arith in
          ones front bytes s (subst (λ (k : ℕ). take k bytes ≡ take k front) n same)
        where
          ones : (front bytes : List ℕ) (s : ℕ) → take (suc s) bytes ≡ take (suc s) front →
              take 1 bytes ≡ take 1 front
          ones [] [] s e = refl
          ones [] (b ∷ bytes) s e = absurd (cc)
          ones (b ∷ front) [] s e = absurd (cc)
          ones (b ∷ front) (c ∷ bytes) s e = ap (λ (xs : List ℕ). take 1 xs) e

first_plain : (bytes : List ℕ) → 0 < length bytes → white_letter (get_or bytes 0 0) ≡ false →
    begins_plain (marks (byte_reads bytes)) ≡ true
first_plain [] some w = absurd (omega (arith, some))
first_plain (b ∷ bytes) some w = ap begins_plain (read_marks (b ∷ bytes)) ∙ plain_begins b bytes w

-- what is found at the front of a piece, of which so many bytes are read
module _ (lexicon : Lexicon) (sensitive : Bool) (whole : IsCoherent lexicon) (piece : List ℕ)
    (n : ℕ) (fits : n ≤ length piece) (few : n ≤ 256) (found : Found)
    (is : IsFound lexicon (byte_reads (take n piece)) false found) (count : ℕ) (text : List ℕ)
    (gives : first_step lexicon sensitive (byte_reads (take n piece)) ≡ Gives count text) where
  abbrev front : List ℕ
  front = take n piece

  front_size : length front ≡ n
  front_size = let t = length-take n piece in omega (arith, t, fits)

  inside : found.span < n
  inside = elim is.settled [
    | inl lt ↦ let k = read_count front in omega (arith, lt, k, front_size)
    | inr e ↦ absurd (cc)
  ]

  spans : span lexicon (byte_reads front) ≡ found.span
  spans = sym is.span_is

  abbrev key : List ℕ
  key = take (found.span + 1) piece

  key_size : length key ≡ found.span + 1
  key_size = let t = length-take (found.span + 1) piece in omega (arith, t, fits, inside)

  key_front : key ≡ take (found.span + 1) front
  key_front = sym (take-take (found.span + 1) n piece (omega (arith, inside)))

  first_byte : 0 < n → get_or front 0 0 ≡ get_or piece 0 0
  first_byte some = heads n piece some
    where
      heads : (k : ℕ) (bytes : List ℕ) → 0 < k → get_or (take k bytes) 0 0 ≡ get_or bytes 0 0
      heads zero bytes lt = absurd (omega (arith, lt))
      heads (suc k) [] lt = refl
      heads (suc k) (b ∷ bytes) lt = refl

  by_key : ((bytes : List ℕ) → take (found.span + 1) bytes ≡ take (found.span + 1) front →
      length bytes ≤ 258 → (place : ℕ) → IsStep lexicon sensitive (bare_items place bytes) count text)
      → IsFrontStep lexicon sensitive (step_of key text count false)
  by_key f = record {
    bare = λ e. absurd (cc);
    gives = λ bytes bare same follows short place. f bytes
        (ap (λ (k : ℕ). take k bytes) (sym key_size) ∙ same ∙ key_front) short place;
  }

  pub closed_plain : white_letter (get_or piece 0 0) ≡ false →
      IsFrontStep lexicon sensitive (step_of key text count false)
  closed_plain w = by_key (λ bytes same short place.
      other_step lexicon sensitive whole front found.span spans
      (omega (arith, inside, front_size)) (omega (arith, front_size, few)) count text gives bytes
      same short place (first_plain front (omega (arith, inside, front_size))
      (ap white_letter (first_byte (omega (arith, inside))) ∙ w)))

  pub closed_copies : found.licence ≡ 0 → found.unknown ≡ 0 →
      IsFrontStep lexicon sensitive (step_of key text count false)
  closed_copies l u =
      let none : licence lexicon (byte_reads front) ≡ 0 = sym is.licence_is ∙ l in
      let no_run : unknown_length lexicon (byte_reads front) ≡ 0 = sym is.unknown_is ∙ u in
      let copies : first_step lexicon sensitive (byte_reads front) ≡ copied (byte_reads front) =
      within lexicon sensitive (byte_reads front) (all_in_limit lexicon (byte_reads front)
      (let k = read_bytes front in omega (arith, k, front_size, few)))
      ∙ step_copied lexicon sensitive (byte_reads front) none
      (sym (unknown_run lexicon (byte_reads front) none) ∙ no_run) in
      by_key (λ bytes same short place.
      copying_step lexicon sensitive whole front found.span spans
      (omega (arith, inside, front_size)) (omega (arith, front_size, few)) count text gives bytes
      same short place none no_run copies)

-- Endings.

ending_is_by : (b : ℕ) (t : Bool) → is_white b ≡ t →
    symbol_of (bare_item b) ≡ Some (ending_symbol b)
ending_is_by b true w =
    let f : white_letter b ≡ true = grind (arith, nat_tests) in rw w (rw f refl)
ending_is_by b false w =
    let f : white_letter b ≡ false = grind (arith, nat_tests) in rw w (rw f refl)

ending_is : (b : ℕ) → symbol_of (bare_item b) ≡ Some (ending_symbol b)
ending_is b = ending_is_by b (is_white b) refl

-- where the span is open, any ending may come behind it
module _ (lexicon : Lexicon) (sensitive : Bool) (whole : IsCoherent lexicon) (front : List ℕ)
    (s : ℕ) (spans : span lexicon (byte_reads front) ≡ s) (more : s < length front) (some : 0 < s)
    (short : length front ≤ 256) (free : IsOpen lexicon (byte_reads front) s) (e : ℕ)
    (ending : is_ending e ≡ true) where
  abbrev a : List Read
  a = byte_reads (take s front)

  abbrev xs : List Read
  xs = byte_reads (drop s front)

  abbrev ys : List Read
  ys = byte_read e ∷ []

  whole_is : a ++ xs ≡ byte_reads front
  whole_is = sym (joined (take s front) (drop s front)) ∙ ap byte_reads (take-append-drop s front)

  size : length a ≡ s
  size = let n = read_count (take s front) in let t = length-take s front in
      omega (arith, n, t, more)

  all : length (symbols a) ≡ length a
  all = elim (cases_lt (length (symbols a)) (length a)) [
    | inl lt ↦
        let f = ap length (front_ends symbol_of a xs lt) in
        let w = ap (λ (rs : List Read). length (symbols rs)) whole_is in
        let k = span_within lexicon (byte_reads front) in
        absurd (omega (arith, f, w, k, spans, size, lt))
    | inr ge ↦ let k = front_short symbol_of a in omega (arith, ge, k)
  ]

  ends : begins_alphabetic lexicon xs ≡ false
  ends = ap (begins_alphabetic lexicon) (sym (drop-map byte_read s front)) ∙ free.here

  stops : begins_alphabetic lexicon ys ≡ false
  stops = ap (is_letter_symbol lexicon) (ending_is e) ∙ (free.ends e ending).plain

  low : viable_length lexicon (a ++ xs) ≤ length a
  low = let v = ap (viable_length lexicon) whole_is in
      omega (arith, v, span_is lexicon (byte_reads front), spans, size)

  surface_is : surface (a ++ ys) (suc (length a))
      ≡ surface (byte_reads front) s ++ ending_symbol e ∷ []
  surface_is =
      let one : symbols ys ≡ ending_symbol e ∷ [] = rw (ending_is e) refl in
      let n : length (symbols a ++ ending_symbol e ∷ []) ≡ suc (length a) =
      (let k = length-append (symbols a) (ending_symbol e ∷ []) in omega (arith, k, all)) in
      let back : symbols a ≡ surface (byte_reads front) s =
      sym (take_all (length a) (symbols a) (omega (arith, all)))
      ∙ sym (front_more symbol_of a xs (length a) (omega arith))
      ∙ ap (λ (rs : List Read). take (length a) (symbols rs)) whole_is
      ∙ ap (λ (k : ℕ). take k (symbols (byte_reads front))) size in
      ap (take (suc (length a))) (front_goes_on symbol_of a ys all)
      ∙ ap (λ (seen : List Symbol). take (suc (length a)) (symbols a ++ seen)) one
      ∙ take_all (suc (length a)) (symbols a ++ ending_symbol e ∷ []) (omega (arith, n))
      ∙ ap (λ (seen : List Symbol). seen ++ ending_symbol e ∷ []) back

  past : (viable_length lexicon (a ++ xs) < length a)
      ⊎ (lexicon.viable (surface (a ++ ys) (suc (length a))) ≡ false)
  past = elim (free.ends e ending).dead [
    | inl lt ↦ inl (let v = ap (viable_length lexicon) whole_is in omega (arith, v, lt, size))
    | inr dead ↦ inr (ap lexicon.viable surface_is ∙ dead)
  ]

  abbrev pub ended : List ℕ
  ended = take s front ++ e ∷ []

  ended_is : byte_reads ended ≡ a ++ ys
  ended_is = joined (take s front) (e ∷ [])

  pub ended_size : length ended ≡ s + 1
  ended_size = let k = length-append (take s front) (e ∷ []) in let t = length-take s front in
      omega (arith, k, t, more)

  pub ended_spans : span lexicon (byte_reads ended) ≡ s
  ended_spans = ap (span lexicon) ended_is
      ∙ span_same lexicon whole a xs ys all ends stops low past
      ∙ ap (span lexicon) whole_is ∙ spans

  pub ended_step : first_step lexicon sensitive (byte_reads ended)
      ≡ first_step lexicon sensitive (byte_reads front)
  ended_step =
      let spans_a : span lexicon (a ++ xs) ≤ length a =
      (let w = ap (span lexicon) whole_is in omega (arith, w, spans, size)) in
      within lexicon sensitive (byte_reads ended) (all_in_limit lexicon (byte_reads ended)
      (let n = read_bytes ended in omega (arith, n, ended_size, more, short)))
      ∙ ap (step_within lexicon sensitive) ended_is
      ∙ within_same lexicon whole a xs ys all ends stops low past sensitive
      (omega (arith, size, some)) spans_a
      ∙ ap (step_within lexicon sensitive) whole_is
      ∙ sym (within lexicon sensitive (byte_reads front) (all_in_limit lexicon (byte_reads front)
      (let n = read_bytes front in omega (arith, n, short))))

take_next : (bytes : List ℕ) (s e : ℕ) (rest : List ℕ) → drop s bytes ≡ e ∷ rest →
    take (s + 1) bytes ≡ take s bytes ++ e ∷ []
take_next bytes s e rest h = take-add s 1 bytes
    ∙ ap (λ (z : List ℕ). take s bytes ++ take 1 z) h

-- a step under a key that any ending may follow
module _ (lexicon : Lexicon) (sensitive : Bool) (whole : IsCoherent lexicon) (piece : List ℕ)
    (n : ℕ) (fits : n ≤ length piece) (few : n ≤ 256) (found : Found)
    (is : IsFound lexicon (byte_reads (take n piece)) false found) (count : ℕ) (text : List ℕ)
    (gives : first_step lexicon sensitive (byte_reads (take n piece)) ≡ Gives count text)
    (asked : found.any_ending ≡ true) (some : 0 < found.span)
    (bare_key : bare_run (take found.span piece) ≡ true)
    (w : white_letter (get_or piece 0 0) ≡ false) where
  within_n : found.span < n
  within_n = inside lexicon sensitive whole piece n fits few found is count text gives

  size_n : length (take n piece) ≡ n
  size_n = let t = length-take n piece in omega (arith, t, fits)

  size_key : length (take found.span piece) ≡ found.span
  size_key = let t = length-take found.span piece in omega (arith, t, fits, within_n)

  key_same : take found.span piece ≡ take found.span (take n piece)
  key_same = sym (take-take found.span n piece (omega (arith, within_n)))

  spans_n : span lexicon (byte_reads (take n piece)) ≡ found.span
  spans_n = sym is.span_is

  plain_head : (k : ℕ) (bytes : List ℕ) (e : ℕ) → 0 < k → k ≤ length bytes →
      white_letter (get_or bytes 0 0) ≡ false →
      begins_plain (marks (byte_reads (take k bytes ++ e ∷ []))) ≡ true
  plain_head zero bytes e lt le h = absurd (omega (arith, lt))
  plain_head (suc k) [] e lt le h = absurd (omega (arith, le))
  plain_head (suc k) (b ∷ bytes) e lt le h = first_plain (b ∷ (take k bytes ++ e ∷ []))
      (omega arith) h

  with_ending : (bytes : List ℕ) (e : ℕ) (rest : List ℕ) → drop found.span bytes ≡ e ∷ rest →
      is_ending e ≡ true → take found.span bytes ≡ take found.span piece → length bytes ≤ 258 →
      (place : ℕ) → IsStep lexicon sensitive (bare_items place bytes) count text
  with_ending bytes e rest h ending same short place =
      let more : found.span < length (take n piece) = omega (arith, size_n, within_n) in
      let little : length (take n piece) ≤ 256 = omega (arith, size_n, few) in
      let wide = ended_size lexicon sensitive whole (take n piece) found.span spans_n more some
      little (is.ending_is asked) e ending in
      let front_e : List ℕ = take found.span (take n piece) ++ e ∷ [] in
      let alike_e : take (found.span + 1) bytes ≡ take (found.span + 1) front_e =
      take_next bytes found.span e rest h
      ∙ ap (λ (z : List ℕ). z ++ e ∷ []) (same ∙ key_same)
      ∙ sym (take_all (found.span + 1) front_e (omega (arith, wide))) in
      other_step lexicon sensitive whole front_e found.span
      (ended_spans lexicon sensitive whole (take n piece) found.span spans_n more some little
      (is.ending_is asked) e ending) (omega (arith, wide)) (omega (arith, wide, more, little)) count
      text
      (ended_step lexicon sensitive whole (take n piece) found.span spans_n more some little
      (is.ending_is asked) e ending ∙ gives) bytes alike_e short place
      (plain_head found.span (take n piece) e some (omega (arith, more))
      (ap white_letter (first_byte lexicon sensitive whole piece n fits few found is count text gives
      (omega (arith, within_n))) ∙ w))

  by_ending : (bytes after : List ℕ) → drop found.span bytes ≡ after →
      follows_key true after ≡ true → take found.span bytes ≡ take found.span piece →
      length bytes ≤ 258 →
      (place : ℕ) → IsStep lexicon sensitive (bare_items place bytes) count text
  by_ending bytes [] h ending same short place = absurd (cc)
  by_ending bytes (e ∷ rest) h ending same short place =
      with_ending bytes e rest h ending same short place

  pub open_step : IsFrontStep lexicon sensitive (step_of (take found.span piece) text count true)
  open_step = record {
    bare = λ e. bare_key;
    gives = λ bytes bare same follows short place. by_ending bytes (drop found.span bytes) refl
        (ap (λ (k : ℕ). follows_key true (drop k bytes)) (sym size_key) ∙ follows)
        (ap (λ (k : ℕ). take k bytes) (sym size_key) ∙ same) short place;
  }

pub sought_gives : (lexicon : Lexicon) (sensitive : Bool) (piece : List ℕ) (reads : List Read)
    (count : ℕ) (text : List ℕ) → AreRead piece reads →
    step_within lexicon sensitive reads ≡ Gives count text →
    first_step lexicon sensitive (byte_reads (take (length reads) piece)) ≡ Gives count text
sought_gives lexicon sensitive piece reads count text is h =
    let front : List ℕ = take (length reads) piece in
    let t = length-take (length reads) piece in
    let most = is.most in
    let few = is.few in
    within lexicon sensitive (byte_reads front) (all_in_limit lexicon (byte_reads front)
    (let k = read_bytes front in omega (arith, k, t, most, few)))
    ∙ ap (step_within lexicon sensitive) (sym is.are) ∙ h
