-- A number that is read digit by digit in one pass.
use Rattle.std.proofs.Common.{◌≡◌, ℕ, ◌+◌, ◌-◌, ◌*◌, ◌≤◌, Bool, true, false, List, [], ◌∷◌, refl, sym, ◌∙◌, ap, subst, arith, length, take, drop, suc, Option, Some, None}
use Rattle.std.specs.List.{prefix_len}
use Rattle.std.proofs.lemmas.Bool.{cond-true, cond-false}
use Rattle.std.proofs.lemmas.List.Sums.{prefix_len-le-length}
use Rattle.std.specs.Prelude.{if◌then◌else◌}
use Rattle.ap_binary.specs.Pieces.{is_digit, is_numeral, limited, number_at, value_after, IsShort}
use Rattle.ap_binary.proofs.Numbers.{limited_some}

-- the digits at the front
abbrev digits : List ℕ → List ℕ
digits bytes = take (prefix_len is_digit bytes) bytes

-- So many digits were read, and they write this.
pub record IsSoFar (bytes : List ℕ) (value len : ℕ) : Type 0 where
  pub len_is : len + prefix_len is_digit (drop len bytes) ≡ prefix_len is_digit bytes
  pub value_is : value_after value (digits (drop len bytes)) ≡ value_after 0 (digits bytes)

pub begun : (bytes : List ℕ) → IsSoFar bytes 0 0
begun bytes = record { len_is = omega arith; value_is = refl }

front_len : (b : ℕ) (rest : List ℕ) → is_digit b ≡ true →
    prefix_len is_digit (b ∷ rest) ≡ suc (prefix_len is_digit rest)
front_len b rest d =
    let one : 1 + prefix_len is_digit rest ≡ suc (prefix_len is_digit rest) = omega arith in
    cond-true (is_digit b) (1 + prefix_len is_digit rest) 0 d ∙ one

front_value : (value b : ℕ) (rest : List ℕ) → is_digit b ≡ true →
    value_after value (digits (b ∷ rest)) ≡ value_after (value * 10 + (b - 48)) (digits rest)
front_value value b rest d =
    ap (λ n. value_after value (take n (b ∷ rest))) (front_len b rest d)

pub read_on : (bytes : List ℕ) (value len b : ℕ) → drop len bytes ≡ b ∷ drop (len + 1) bytes →
    is_digit b ≡ true → IsSoFar bytes value len →
    IsSoFar bytes (value * 10 + (b - 48)) (len + 1)
read_on bytes value len b front d is =
    let more : prefix_len is_digit (drop len bytes)
    ≡ suc (prefix_len is_digit (drop (len + 1) bytes)) =
    ap (prefix_len is_digit) front ∙ front_len b (drop (len + 1) bytes) d in
    let whole : len + prefix_len is_digit (drop len bytes) ≡ prefix_len is_digit bytes =
    is.len_is in
    record {
      len_is = omega arith;
      value_is = sym (front_value value b (drop (len + 1) bytes) d)
          ∙ ap (λ (z : List ℕ). value_after value (digits z)) (sym front) ∙ is.value_is;
    }

-- what is read of bytes whose digits are so many, by whether they are a numeral
number_by : (bytes : List ℕ) (len : ℕ) → len ≡ prefix_len is_digit bytes → number_at bytes
    ≡ (if is_numeral (take len bytes)
    then Some (limited (value_after 0 (take len bytes)), drop len bytes) else None)
unfolding number_at
number_by bytes len e = ap (λ (k : ℕ). (let o : Option (Option ℕ × List ℕ) =
    if is_numeral (take k bytes)
    then Some (limited (value_after 0 (take k bytes)), drop k bytes) else None in o)) (sym e)

pub number_read : (bytes rest : List ℕ) (value len : ℕ) → IsShort bytes value len →
    is_numeral (take len bytes) ≡ true → rest ≡ drop len bytes →
    number_at bytes ≡ Some (Some value, rest)
number_read bytes rest value len s n e =
    let all : limited (value_after 0 (take len bytes)) ≡ Some value =
    ap limited (sym s.value_is) ∙ limited_some value s.small in
    number_by bytes len s.len_is
    ∙ cond-true (is_numeral (take len bytes))
    (Some (limited (value_after 0 (take len bytes)), drop len bytes)) None n
    ∙ ap (λ (o : Option ℕ). (let p : Option (Option ℕ × List ℕ) = Some (o, drop len bytes) in p)) all
    ∙ ap (λ (z : List ℕ). (let p : Option (Option ℕ × List ℕ) = Some (Some value, z) in p)) (sym e)

pub number_bad : (bytes : List ℕ) (value len : ℕ) → IsShort bytes value len →
    is_numeral (take len bytes) ≡ false → number_at bytes ≡ None
number_bad bytes value len s n = number_by bytes len s.len_is
    ∙ cond-false (is_numeral (take len bytes))
    (Some (limited (value_after 0 (take len bytes)), drop len bytes)) None n

pub short_within : (bytes : List ℕ) (value len : ℕ) → IsShort bytes value len → len ≤ length bytes
short_within bytes value len s = let most : prefix_len is_digit bytes ≤ length bytes =
    prefix_len-le-length is_digit bytes in let e : len ≡ prefix_len is_digit bytes = s.len_is in
    omega arith
