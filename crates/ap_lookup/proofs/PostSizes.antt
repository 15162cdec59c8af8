-- How many items a step of post-generation uses, and how many bytes it writes.
use Rattle.std.specs.Prelude.{◌≡◌, ℕ, suc, zero, ◌+◌, ◌<◌, ◌≤◌, nat_lt, Bool, true, false, List, [], ◌∷◌, ◌++◌, length, take, drop, eqb, if◌then◌else◌}
use Rattle.std.specs.List.{flat_map, AllByRecursion}
use Rattle.std.proofs.Common.{arith, refl, ap, sym, inl, inr, subst}
use Rattle.std.proofs.lemmas.Bool.{cases_lt, cases_Bool, cond_both}
use Rattle.std.proofs.lemmas.Bool.Decides.{nat_tests}
use Rattle.std.proofs.lemmas.List.{length-append, length-take, length-drop, append-nil}
use Rattle.ap_symbol.specs.Rendering.{symbol_bytes, rendering}
use Rattle.ap_symbol.specs.declared.symbol.Symbol.{Symbol}
use Rattle.ap_symbol.specs.declared.symbol.Symbol.TheVariants as symbol
use Rattle.ap_stream.specs.Blanks.{Close, Within, Bad, Closed, closing}
use Rattle.ap_stream.specs.Limits.{span_max, unit_max, stage_max}
use Rattle.ap_stream.specs.Reading.{IsRead}
use Rattle.ap_stream.specs.Spelling.{spelled}
use Rattle.ap_stream.specs.Steps.{Step, Gives, Stops, bytes_of}
use Rattle.ap_stream.specs.Supers.{closed_super, blank_supers}
use Rattle.ap_stream.specs.declared.dialect.Dialect.TheVariants.{Generated}
use Rattle.ap_stream.specs.declared.fault.LimitKind.TheVariants.{UnitTooLong}
use Rattle.ap_stream.specs.declared.item.Item.{Item}
use Rattle.ap_stream.specs.declared.item.Item.TheVariants as item
use Rattle.ap_stream.specs.declared.item.Read.{Read}
use Rattle.ap_stream.proofs.Spells.{spelled_size}
use Rattle.ap_stream.proofs.StepLaws.{bytes_less}
use Rattle.ap_live.specs.Lexicon.{Lexicon, IsCoherent}
use Rattle.ap_lookup.specs.PostGenerating.{symbols, begins_alarm, matched, span, chosen, blank_of, blanks, left_over, filling, filled, word_step, match_step, alarm_step, copied, post_step}
use Rattle.ap_lookup.proofs.PostSteps.{span_alarm, fitting_short, matched_within, step_alarm, step_bare, alarm_over, alarm_within, match_some}

-- all the bytes of some texts
abbrev all_bytes : List (List ℕ) → List ℕ
all_bytes texts = flat_map (λ bytes. bytes) texts

closed_size : (b : ℕ) (bs : List ℕ) (close : Close) →
    ((n : ℕ) → length (all_bytes (blank_supers n bs)) ≤ length (drop n bs)) →
    length (all_bytes (closed_super bs close (λ n. blank_supers n bs))) ≤ suc (length bs)
closed_size b bs Within h = omega arith
closed_size b bs Bad h = omega arith
closed_size b bs (Closed n) h =
    omega (
      arith,
      h n,
      length-append (91 ∷ take n bs) (all_bytes (blank_supers n bs)),
      length-take n bs,
      length-drop n bs,
    )

-- the superblanks of a blank are no longer than it
supers_size : (skip : ℕ) (bytes : List ℕ) →
    length (all_bytes (blank_supers skip bytes)) ≤ length (drop skip bytes)
unfolding blank_supers
supers_size zero [] = omega arith
supers_size (suc skip) [] = omega arith
supers_size (suc skip) (b ∷ bs) = supers_size skip bs
supers_size zero (b ∷ bs) =
    cond_both (eqb b 91) (closed_super bs (closing false 0 bs) (λ n. blank_supers n bs))
    (blank_supers 0 bs) (λ texts. length (all_bytes texts) ≤ suc (length bs))
    (λ _. closed_size b bs (closing false 0 bs) (λ n. supers_size n bs))
    (λ _. omega (arith, supers_size 0 bs))

all_append : (a b : List (List ℕ)) → length (all_bytes (a ++ b))
    ≡ length (all_bytes a) + length (all_bytes b)
all_append [] b = omega arith
all_append (x ∷ a) b = omega (
  arith,
  length-append x (all_bytes (a ++ b)),
  length-append x (all_bytes a),
  all_append a b,
)

left_size : (texts : List (List ℕ)) → length (left_over texts) ≤ length (all_bytes texts)
left_size [] = omega arith
left_size (x ∷ texts) =
    omega (
      arith,
      all_append (blank_supers 0 x) (flat_map (blank_supers 0) texts),
      length-append x (all_bytes texts),
      supers_size 0 x,
      left_size texts,
    )

-- a slot with what fills it
slot_size : (word : List Symbol) (texts : List (List ℕ)) →
    ((rest : List (List ℕ)) →
    length (filled word rest) ≤ length (rendering word) + length (all_bytes rest))
    → length (filling texts ++ filled word (drop 1 texts)) ≤ length (32 ∷ rendering word) + length
    (all_bytes texts)
slot_size word [] h = omega (arith, h [])
slot_size word (x ∷ texts) h =
    omega (arith, length-append x (filled word texts), length-append x (all_bytes texts), h texts)

other_size : (bytes : List ℕ) (word : List Symbol) (texts : List (List ℕ)) →
    length (filled word texts) ≤ length (rendering word) + length (all_bytes texts)
    → length (bytes ++ filled word texts) ≤ length (bytes ++ rendering word) + length
    (all_bytes texts)
other_size bytes word texts h =
    omega (arith, length-append bytes (filled word texts), length-append bytes (rendering word), h)

-- a word with what fills its slots, and what is left over
filled_size : (word : List Symbol) (texts : List (List ℕ)) →
    length (filled word texts) ≤ length (rendering word) + length (all_bytes texts)
filled_size [] texts = omega (arith, left_size texts)
filled_size (symbol.Letter c ∷ word) texts =
    other_size (symbol_bytes (symbol.Letter c)) word texts (filled_size word texts)
filled_size (symbol.Tag name ∷ word) texts =
    other_size (symbol_bytes (symbol.Tag name)) word texts (filled_size word texts)
filled_size (symbol.Blank ∷ word) texts = slot_size word texts (λ rest. filled_size word rest)
filled_size (symbol.Join ∷ word) texts =
    other_size (symbol_bytes symbol.Join) word texts (filled_size word texts)
filled_size (symbol.Queue ∷ word) texts =
    other_size (symbol_bytes symbol.Queue) word texts (filled_size word texts)
filled_size (symbol.Alarm ∷ word) texts =
    other_size (symbol_bytes symbol.Alarm) word texts (filled_size word texts)
filled_size (symbol.Star ∷ word) texts =
    other_size (symbol_bytes symbol.Star) word texts (filled_size word texts)
filled_size (symbol.At ∷ word) texts =
    other_size (symbol_bytes symbol.At) word texts (filled_size word texts)

blank_size : (thing : Item) → length (all_bytes (blank_of thing)) ≤ length (spelled thing)
blank_size (item.Plain c) = omega arith
blank_size (item.Blank bytes) = let l : length (bytes ++ []) ≡ length bytes =
    ap length (append-nil bytes) in omega (arith, l)
blank_size (item.Unit words) = omega arith
blank_size (item.Chunk c) = omega arith

blanks_size : (reads : List Read) (n : ℕ) → AllByRecursion (IsRead Generated) reads →
    length (all_bytes (blanks (take n reads))) ≤ bytes_of (take n reads)
blanks_size reads zero all = omega arith
blanks_size [] (suc n) all = omega arith
blanks_size (read ∷ reads) (suc n) all =
    omega (
      arith,
      all_append (blank_of read.item) (blanks (take n reads)),
      blank_size read.item,
      spelled_size Generated read refl all.0,
      blanks_size reads n all.1,
    )

-- what a step uses and writes
abbrev pub IsWithin : List Read → Step → Type 0
IsWithin reads (Gives n text) = (0 < n) × (n ≤ length reads) × (length text ≤ stage_max)
IsWithin reads (Stops kind) = Unit {0}

word_within : (reads : List Read) (n : ℕ) (word : List Symbol) (texts : List (List ℕ)) → 0 < n →
    n ≤ length reads → length (all_bytes texts) ≤ span_max → IsWithin reads (word_step n word texts)
word_within reads n word texts some le short = by (nat_lt unit_max (length (rendering word))) refl
  where
    by : (b : Bool) → nat_lt unit_max (length (rendering word)) ≡ b →
        IsWithin reads (if b then Stops UnitTooLong else Gives n (filled word texts))
    by true e = tt
    by false e = (
      some,
      le,
      let u : length (rendering word) ≤ unit_max = grind (arith, nat_tests) in
          let f = filled_size word texts in omega (arith, u, f, short),
    )

copied_within : (read : Read) (reads : List Read) → IsRead Generated read →
    IsWithin (read ∷ reads) (copied (read ∷ reads))
copied_within read reads is = (
  omega arith,
  omega arith,
  let l : length (spelled read.item ++ [])
      ≡ length (spelled read.item) = ap length (append-nil (spelled read.item)) in
      omega (arith, l, spelled_size Generated read refl is, is.short),
)

module _ (lexicon : Lexicon) (sensitive : Bool) (read : Read) (reads : List Read)
    (whole : IsCoherent lexicon) (all : AllByRecursion (IsRead Generated) (read ∷ reads)) where
  match_within : begins_alarm (read ∷ reads) ≡ true →
      bytes_of (take (span lexicon (read ∷ reads)) (read ∷ reads)) ≤ span_max →
      IsWithin (read ∷ reads) (match_step lexicon sensitive (read ∷ reads)
      (matched lexicon (read ∷ reads)))
  match_within alarm short =
      let items : List Read = read ∷ reads in
      let n : ℕ = matched lexicon items in
      elim (cases_lt 0 n) [
        | inl some ↦
            let low : n ≤ span lexicon items =
            (let w = matched_within lexicon items whole in let e =
            span_alarm lexicon items alarm in omega (arith, w, e)) in
            let fits : n ≤ length items =
            (let w = matched_within lexicon items whole in let s = fitting_short lexicon items
            in omega (arith, w, s)) in
            let b = bytes_less items n (span lexicon items) low in
            let size = blanks_size items n all in
            subst (IsWithin items) (sym (match_some lexicon sensitive items n some))
            (word_within items n (chosen lexicon sensitive (take n (symbols items)))
            (blanks (take n items)) some fits (omega (arith, size, b, short)))
        | inr none ↦
            let zero : n ≡ 0 = omega arith in
            subst (IsWithin items) (sym (ap (match_step lexicon sensitive items) zero))
            (let none : IsWithin items (Gives 1 []) =
            (omega arith, omega arith, omega arith) in none)
      ]

  alarm_is_within : begins_alarm (read ∷ reads) ≡ true →
      IsWithin (read ∷ reads) (alarm_step lexicon sensitive (read ∷ reads))
  alarm_is_within alarm = elim (cases_lt span_max
      (bytes_of (take (span lexicon (read ∷ reads)) (read ∷ reads)))) [
        | inl long ↦ subst (IsWithin (read ∷ reads))
            (sym (alarm_over lexicon sensitive (read ∷ reads) long)) tt
        | inr short ↦ subst (IsWithin (read ∷ reads))
            (sym (alarm_within lexicon sensitive (read ∷ reads) short)) (match_within alarm short)
      ]

  first_within : IsWithin (read ∷ reads) (post_step lexicon sensitive (read ∷ reads))
  first_within = elim (cases_Bool (begins_alarm (read ∷ reads))) [
    | inl t ↦ subst (IsWithin (read ∷ reads)) (sym (step_alarm lexicon sensitive (read ∷ reads) t))
        (alarm_is_within t)
    | inr f ↦ subst (IsWithin (read ∷ reads)) (sym (step_bare lexicon sensitive (read ∷ reads) f))
        (copied_within read reads all.0)
  ]

-- a step that uses items and writes
pub record IsUsed (items : List Read) (n : ℕ) (text : List ℕ) : Type 0 where
  pub some : 0 < n
  pub within : n ≤ length items
  pub short : length text ≤ stage_max

pub step_used : (lexicon : Lexicon) (sensitive : Bool) (items : List Read) (n : ℕ) (text : List ℕ) →
    IsCoherent lexicon → 0 < length items → AllByRecursion (IsRead Generated) items →
    post_step lexicon sensitive items ≡ Gives n text → IsUsed items n text
step_used lexicon sensitive [] n text whole some all e = absurd (omega arith)
step_used lexicon sensitive (read ∷ reads) n text whole some all e =
    let h = subst (IsWithin (read ∷ reads)) e (first_within lexicon sensitive read reads whole all)
    in record { some = h.0; within = h.1; short = h.2 }
