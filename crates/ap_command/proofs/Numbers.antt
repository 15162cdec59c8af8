-- The words behind `run`: the room of a pipe, and the names of files.
use Rattle.std.proofs.Common.{◌≡◌, ◌≢◌, ℕ, ◌+◌, ◌<◌, ◌≤◌, ◌^◌, Bool, true, false, List, [], ◌∷◌, length, drop, get_or, sym, ◌∙◌, ap, subst, refl, inl, inr, arith, Option, Some, None, Result, Ok, Err, String}
use Rattle.std.specs.Prelude.{not, ◌&&◌, ◌==◌, nat_lt, nat_le, slice_index, if◌then◌else◌}
use Rattle.std.specs.List.{list_all}
use Rattle.std.specs.Str.{all_ascii_digits}
use Rattle.std.specs.Str.Parse.{digits_value, ParsesUnsigned}
use Rattle.std.specs.Result.{OkIff}
use Rattle.std.specs.String.{string_bytes}
use Rattle.std.specs.declared.alloc.Global.{Global}
use Rattle.std.proofs.lemmas.Bool.{cases_eq, ne_eqb}
use Rattle.std.proofs.lemmas.Bool.Decides.{nat_tests}
use Rattle.std.proofs.lemmas.Str.Parse.{IsNumeralModel, numerals_by_value, tells_all_ascii_digits, parse_plain}
use Rattle.ap_command.specs.Words.{texts, is_file_name_lem, number_to, in_range_lem, run_of, usage}
use Rattle.ap_command.proofs.Options.{texts-next}

-- one name more was read
pub names-on : (words : List (String Global)) (i : ℕ) (word : String Global) → i < length words →
    word ≡ get_or words i word → is_file_name_lem (string_bytes word) ≡ true
    → list_all is_file_name_lem (texts (drop i words)) ≡ list_all is_file_name_lem (texts words) →
    list_all is_file_name_lem (texts (drop (i + 1) words)) ≡ list_all is_file_name_lem (texts words)
names-on words i word h at is inv =
    ap (λ b. b && list_all is_file_name_lem (texts (drop (i + 1) words))) (sym is)
    ∙ ap (list_all is_file_name_lem) (sym (texts-next words i word h at)) ∙ inv

-- and a word that is none
pub names-not : (words : List (String Global)) (i : ℕ) (word : String Global) → i < length words →
    word ≡ get_or words i word → is_file_name_lem (string_bytes word) ≡ false
    → list_all is_file_name_lem (texts (drop i words)) ≡ list_all is_file_name_lem (texts words) →
    false ≡ list_all is_file_name_lem (texts words)
names-not words i word h at is inv =
    ap (λ b. b && list_all is_file_name_lem (texts (drop (i + 1) words))) (sym is)
    ∙ ap (list_all is_file_name_lem) (sym (texts-next words i word h at)) ∙ inv

-- words that are too few for files
pub run-short : (words : List (String Global)) → length words < 2 → usage ≡ run_of (texts words)
run-short [] h = refl
run-short (w ∷ []) h = refl
run-short (w ∷ x ∷ ws) h = absurd (omega arith)

-- digits and their value
own : IsNumeralModel (λ ds. all_ascii_digits ds ≡ true) (digits_value 10)
own = numerals_by_value (λ ds. all_ascii_digits ds ≡ true) tells_all_ascii_digits

-- a text that begins with a zero or a sign is no number
bare-none : (d z p : Bool) (o : Option ℕ) → not z && not p ≡ false → p ≡ false →
    None ≡ (if d && not z then o else None)
bare-none d z true o e f = absurd (let x : true ≡ false = f in cc)
bare-none false z false o e f = refl
bare-none true true false o e f = refl
bare-none true false false o e f = absurd (let x : true ≡ false = e in cc)

pub not-bare : (most : ℕ) (bs : List ℕ) →
    not (slice_index bs 0 == 48) && not (slice_index bs 0 == 43) ≡ false →
    None ≡ number_to most bs
not-bare most [] e = absurd (let x : true ≡ false = e in cc)
not-bare most (b ∷ bs) e = elim (cases_eq b 43) [
  | inl same ↦ rw same refl
  | inr other ↦ bare-none (all_ascii_digits (b ∷ bs)) (b == 48) (b == 43)
      (in_range_lem most (digits_value 10 (b ∷ bs))) e (ne_eqb b 43 other)
]

not-both : (z : Bool) → z && false ≡ true → ⊥
not-both true e = let x : false ≡ true = e in cc
not-both false e = let x : false ≡ true = e in cc

no-sign : (z : Bool) (n : ℕ) → z && not (n == 43) ≡ true → n ≢ 43
no-sign z n e same = not-both z (subst (λ m. z && not (m == 43) ≡ true) same e)

no-zero : (z p : Bool) → z && p ≡ true → z ≡ true
no-zero true p e = refl
no-zero false p e = e

-- a number that was parsed is the text's
if-both : (d z : Bool) (o : Option ℕ) → d ≡ true → z ≡ true → o ≡ (if d && z then o else None)
if-both true true o e f = refl
if-both true false o e f = absurd (let x : false ≡ true = f in cc)
if-both false z o e f = absurd (let x : false ≡ true = e in cc)

abbrev Parsed : {E : Type 0} → Result ℕ E → List ℕ → Type 0
Parsed r bs = OkIff r ((all_ascii_digits bs ≡ true) × (0 < length bs)
    × (digits_value 10 bs < 2 ^ 64)) (digits_value 10 bs)

parsed : {E : Type 0} (bs : List ℕ) (r : Result ℕ E) → ParsesUnsigned 64 10 bs r →
    not (slice_index bs 0 == 48) && not (slice_index bs 0 == 43) ≡ true → Parsed r bs
parsed bs r h e =
    parse_plain own 64 bs r h (no-sign (not (slice_index bs 0 == 48)) (slice_index bs 0) e)

pub number-parsed : {E : Type 0} (most : ℕ) (bs : List ℕ) (r : Result ℕ E) (n : ℕ) →
    ParsesUnsigned 64 10 bs r → r ≡ Ok n →
    not (slice_index bs 0 == 48) && not (slice_index bs 0 == 43) ≡ true →
    in_range_lem most n ≡ number_to most bs
number-parsed {E} most bs r n h is e =
    let p : Parsed {E = E} (Ok n) bs = subst (λ x. Parsed x bs) is (parsed bs r h e) in
    ap (in_range_lem most) p.1
    ∙ if-both (all_ascii_digits bs) (not (slice_index bs 0 == 48))
    (in_range_lem most (digits_value 10 bs)) p.0.0
    (no-zero (not (slice_index bs 0 == 48)) (not (slice_index bs 0 == 43)) e)

-- and what is not parsed is no number
range-none : (a b : Bool) (v : ℕ) → (a ≡ true → b ≡ true → ⊥) →
    None ≡ (if a && b then Some v else None)
range-none true true v h = absurd (h refl refl)
range-none true false v h = refl
range-none false b v h = refl

if-none : (d z : Bool) (o : Option ℕ) → (d ≡ true → None ≡ o) →
    None ≡ (if d && z then o else None)
if-none true true o h = h refl
if-none true false o h = refl
if-none false z o h = refl

some-digit : (bs : List ℕ) → 0 < digits_value 10 bs → 0 < length bs
some-digit [] h = absurd (let l : 0 < 0 = h in omega arith)
some-digit (b ∷ bs) h = omega arith

pub number-unparsed : {E : Type 0} (most : ℕ) (bs : List ℕ) (r : Result ℕ E) (f : E) →
    most < 2 ^ 64 → ParsesUnsigned 64 10 bs r → r ≡ Err f →
    not (slice_index bs 0 == 48) && not (slice_index bs 0 == 43) ≡ true →
    None ≡ number_to most bs
number-unparsed {E} most bs r f small h is e =
    let p : Parsed {E = E} (Err f) bs = subst (λ x. Parsed x bs) is (parsed bs r h e) in
    if-none (all_ascii_digits bs) (not (slice_index bs 0 == 48))
    (in_range_lem most (digits_value 10 bs))
    (λ d. range-none (nat_lt 0 (digits_value 10 bs)) (nat_le (digits_value 10 bs) most)
    (digits_value 10 bs)
    (λ some few. (let l : 0 < digits_value 10 bs = grind (arith, nat_tests) in
    let m : digits_value 10 bs ≤ most = grind (arith, nat_tests) in
    p (d, some-digit bs l, omega arith))))
