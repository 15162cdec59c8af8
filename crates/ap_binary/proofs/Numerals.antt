-- The number that is written is read again.
use Rattle.std.proofs.Common.{◌≡◌, inl, inr, ℕ, suc, ◌+◌, ◌^◌, ◌<◌, eqb, Bool, true, false, ◌&&◌, nat_le, nat_lt, List, [], ◌∷◌, ◌++◌, length, take, drop, get_or, refl, ◌∙◌, ap, arith, rules, Some, cond}
use Rattle.std.specs.Prelude.{decimal}
use Rattle.std.specs.List.{prefix_len}
use Rattle.std.specs.Str.{all_ascii_digits, bytes_eq}
use Rattle.std.proofs.lemmas.Bool.{and_parts, cases_lt}
use Rattle.std.proofs.lemmas.Bool.Decides.{nat_tests}
use Rattle.std.proofs.lemmas.Fmt.{digits_decimal, digits_value-decimal, decimal_digit, decimal_nonempty, first_decimal}
use Rattle.std.proofs.lemmas.Str.Parse.{IsNumeralModel, numerals_by_fold}
use Rattle.std.proofs.Math.Seq.{take-append_seam, drop-append_seam}
use Rattle.ap_symbol.specs.Words.{is_white}
use Rattle.ap_binary.specs.Pieces.{byte_at, word_at, is_digit, value_after, is_numeral, number_at, is_character, character_of, character_at, number_then}
use Rattle.ap_binary.proofs.Bools.{or_cases}
use Rattle.ap_binary.proofs.Numbers.{limited_some}

pub own : IsNumeralModel (λ ds. all_ascii_digits ds ≡ true) (value_after 0)
own = numerals_by_fold _ (search rules) value_after (search rules)

prefix_step : (b : Bool) (m n k : ℕ) → cond b (1 + m) 0 ≡ suc n → (m ≡ n → k ≡ n) →
    cond b (1 + k) 0 ≡ suc n
prefix_step true m n k h f = let e : m ≡ n = omega arith in let q : k ≡ n = f e in omega arith
prefix_step false m n k h f = absurd (omega arith)

pub prefix_all : (p : ℕ → Bool) (ds : List ℕ) (b : ℕ) (rest : List ℕ) → prefix_len p ds ≡ length ds
    → p b ≡ false → prefix_len p (ds ++ b ∷ rest) ≡ length ds
prefix_all p [] b rest h e = rw e refl
prefix_all p (d ∷ ds) b rest h e =
    prefix_step (p d) (prefix_len p ds) (length ds) (prefix_len p (ds ++ b ∷ rest)) h
    (λ k. prefix_all p ds b rest k e)

prefix_digits : (ds : List ℕ) → all_ascii_digits ds ≡ true → prefix_len is_digit ds ≡ length ds
prefix_digits [] h = refl
prefix_digits (d ∷ ds) h =
    let s : (is_digit d ≡ true) × (all_ascii_digits ds ≡ true) =
    and_parts (is_digit d) (all_ascii_digits ds) h in
    let k : prefix_len is_digit ds ≡ length ds = prefix_digits ds s.1 in
    rw s.0 (omega arith)

pub cut_digits : (ds : List ℕ) (n b : ℕ) (rest : List ℕ) → all_ascii_digits ds ≡ true →
    is_digit b ≡ false → is_numeral ds ≡ true → value_after 0 ds ≡ n → n < 2 ^ 64 →
    number_at (ds ++ b ∷ rest) ≡ Some (Some n, b ∷ rest)
unfolding number_at
cut_digits ds n b rest digits other numeral value small =
    let k : prefix_len is_digit (ds ++ b ∷ rest) ≡ length ds =
    prefix_all is_digit ds b rest (prefix_digits ds digits) other in
    let t : take (prefix_len is_digit (ds ++ b ∷ rest)) (ds ++ b ∷ rest) ≡ ds =
    ap (λ (i : ℕ). take i (ds ++ b ∷ rest)) k ∙ take-append_seam ds (b ∷ rest) in
    let d : drop (prefix_len is_digit (ds ++ b ∷ rest)) (ds ++ b ∷ rest) ≡ b ∷ rest =
    ap (λ (i : ℕ). drop i (ds ++ b ∷ rest)) k ∙ drop-append_seam ds (b ∷ rest) in
    rw (t, d, numeral, value, limited_some n small) refl

numeral_long : (ds : List ℕ) → 0 < length ds → 48 < get_or ds 0 0 → is_numeral ds ≡ true
numeral_long ds some first =
    let a : nat_lt 0 (length ds) ≡ true = grind (arith, nat_tests, some) in
    let b : eqb (get_or ds 0 0) 48 ≡ false = grind (arith, nat_tests, first) in
    rw (a, b) refl

numeral_decimal : (n : ℕ) → n < 2 ^ 64 → is_numeral (decimal n) ≡ true
numeral_decimal n small = elim (cases_lt 0 n) [
  | inl some ↦ numeral_long (decimal n) (decimal_nonempty n small) (first_decimal n some small)
  | inr le ↦ let zero_is : n ≡ 0 = omega arith in let tiny : n < 10 = omega arith in
      let e : decimal n ≡ 48 ∷ [] = decimal_digit n tiny ∙ ap (λ (k : ℕ). (48 + k) ∷ []) zero_is in
      ap is_numeral e
]

pub number_back : (n b : ℕ) (rest : List ℕ) → n < 2 ^ 64 → is_digit b ≡ false →
    number_at (decimal n ++ b ∷ rest) ≡ Some (Some n, b ∷ rest)
number_back n b rest small other =
    cut_digits (decimal n) n b rest (digits_decimal own n small) other (numeral_decimal n small)
    (digits_value-decimal own n small) small

pub byte_back : (b : ℕ) (rest : List ℕ) → byte_at b (b ∷ rest) ≡ Some rest
unfolding byte_at
byte_back b rest = let e : eqb b b ≡ true = grind (arith, nat_tests) in rw e refl

pub then_back : (n b : ℕ) (rest : List ℕ) → n < 2 ^ 64 → is_digit b ≡ false →
    number_then b (decimal n ++ b ∷ rest) ≡ Some (Some n, rest)
unfolding number_then
then_back n b rest small other = rw (number_back n b rest small other, byte_back b rest) refl

same_bytes : (w : List ℕ) → bytes_eq w w ≡ true
same_bytes [] = refl
same_bytes (b ∷ w) = let e : eqb b b ≡ true = grind (arith, nat_tests) in rw (e, same_bytes w) refl

pub word_back : (w rest : List ℕ) → word_at w (w ++ rest) ≡ Some rest
unfolding word_at
word_back w rest = rw (take-append_seam w rest, drop-append_seam w rest, same_bytes w) refl

pub small_character : (c : ℕ) → is_character c ≡ true → c < 2 ^ 64
small_character c h = elim (or_cases (nat_lt c 0xD800) (nat_le 0xE000 c && nat_lt c 0x110000) h) [
  | inl e ↦ let lt : c < 0xD800 = grind (arith, nat_tests, e) in omega arith
  | inr e ↦ let s : (nat_le 0xE000 c ≡ true) × (nat_lt c 0x110000 ≡ true) =
      and_parts (nat_le 0xE000 c) (nat_lt c 0x110000) e in let lt : c < 0x110000 =
      grind (arith, nat_tests, s.1) in omega arith
]

pub character_back : (c b : ℕ) (rest : List ℕ) → is_character c ≡ true → is_white c ≡ false →
    is_digit b ≡ false → character_at (decimal c ++ b ∷ rest) ≡ Some (c, b ∷ rest)
unfolding character_at
character_back c b rest char plain other =
    let read : character_of (Some c) ≡ Some c = rw (char, plain) refl in
    rw (number_back c b rest (small_character c char) other, read) refl
