-- Numbers of any size in lines: what is read of them, and that they are read again.
use Rattle.std.proofs.Common.{◌≡◌, ◌⊎◌, inl, inr, ℕ, suc, zero, ◌-◌, ◌^◌, ◌<◌, ◌≤◌, true, false, nat_lt, List, [], ◌∷◌, ◌++◌, length, take, drop, refl, sym, ◌∙◌, ap, arith, IfSome, Option, Some}
use Rattle.std.specs.List.{prefix_len, list_all}
use Rattle.std.specs.Ordering.{nat_cmp}
use Rattle.std.proofs.lemmas.Bool.{and_parts, cases_Bool, cases_lt}
use Rattle.std.proofs.lemmas.Bool.Decides.{nat_tests}
use Rattle.std.proofs.lemmas.List.{take-append-drop}
use Rattle.std.proofs.Math.Seq.{take-append_seam, drop-append_seam}
use Rattle.ap_fst.proofs.PlaceLaws.{cmp_less}
use Rattle.ap_binary.specs.Faults.{IsNumeral}
use Rattle.ap_binary.specs.Reading.{◌>>=◌}
use Rattle.ap_binary.specs.Pieces.{byte_at, is_digit, value_after, is_numeral, limited, number_at, state_of, number_then}
use Rattle.ap_binary.proofs.Inverse.{byte_is}
use Rattle.ap_binary.proofs.Numbers.{limited_none, limited_some}
use Rattle.ap_binary.proofs.Numerals.{byte_back, prefix_all}
use Rattle.ap_binary.proofs.Options.{chosen_if, bind_some, some_holds}

digits_front : (bs : List ℕ) → list_all is_digit (take (prefix_len is_digit bs) bs) ≡ true
digits_front [] = refl
digits_front (b ∷ bs) = elim (cases_Bool (is_digit b)) [
  | inl e ↦
      let q : prefix_len is_digit (b ∷ bs) ≡ suc (prefix_len is_digit bs) = rw e (omega arith) in
      let k : list_all is_digit (take (prefix_len is_digit bs) bs) ≡ true = digits_front bs in
      ap (λ i. list_all is_digit (take i (b ∷ bs))) q ∙ rw (e, k) refl
  | inr e ↦ let q : prefix_len is_digit (b ∷ bs) ≡ zero = rw e refl in
      ap (λ i. list_all is_digit (take i (b ∷ bs))) q
]

digits_whole : (ds : List ℕ) → list_all is_digit ds ≡ true → prefix_len is_digit ds ≡ length ds
digits_whole [] h = refl
digits_whole (d ∷ ds) h =
    let s : (is_digit d ≡ true) × (list_all is_digit ds ≡ true) =
    and_parts (is_digit d) (list_all is_digit ds) h in
    let k : prefix_len is_digit ds ≡ length ds = digits_whole ds s.1 in
    rw s.0 (omega arith)

-- what is read where a number is wanted, with this byte behind it
pub record IsNumberRead (b : ℕ) (bytes : List ℕ) (v : Option ℕ × List ℕ) : Type 0 where
  pub digits : List ℕ
  pub n : ℕ
  pub numeral : IsNumeral digits n
  pub is : bytes ≡ digits ++ b ∷ v.1
  pub read : v.0 ≡ limited n

record IsDigitsRead (bytes : List ℕ) (v : Option ℕ × List ℕ) : Type 0 where
  digits : List ℕ
  n : ℕ
  numeral : IsNumeral digits n
  is : bytes ≡ digits ++ v.1
  read : v.0 ≡ limited n

number_found : (bytes : List ℕ) → IfSome (number_at bytes) (IsDigitsRead bytes)
unfolding number_at
number_found bytes =
    let k : ℕ = prefix_len is_digit bytes in
    let ds : List ℕ = take k bytes in
    chosen_if (is_numeral ds) (limited (value_after 0 ds), drop k bytes) (IsDigitsRead bytes)
    (λ form. record {
      digits = ds;
      n = value_after 0 ds;
      numeral =
          record { each = digits_front bytes; form = form; value = refl };
      is =
          sym (take-append-drop k bytes);
      read = refl;
    })

then_found : (b : ℕ) (bytes : List ℕ) → IfSome (number_then b bytes) (IsNumberRead b bytes)
unfolding number_then
then_found b bytes =
    let N : Type 0 = Option ℕ × List ℕ in
    bind_some {A = N} {B = N} (number_at bytes)
    (λ n. ◌>>=◌ {A = List ℕ} {B = N} (byte_at b n.1) (λ rest. Some (n.0, rest)))
    (IsNumberRead b bytes)
    (λ n is. bind_some {A = List ℕ} {B = N} (byte_at b n.1) (λ rest. Some (n.0, rest))
    (IsNumberRead b bytes)
    (λ rest is2.
    let r : IsDigitsRead bytes n =
    some_holds (number_at bytes) n (IsDigitsRead bytes) (number_found bytes) is in
    record {
      digits = r.digits;
      n = r.n;
      numeral = r.numeral;
      is =
          r.is ∙ ap (λ z. r.digits ++ z) (byte_is b n.1 rest is2);
      read = r.read;
    }))

pub number_read : (b : ℕ) (bytes : List ℕ) (v : Option ℕ × List ℕ) → number_then b bytes ≡ Some v →
    IsNumberRead b bytes v
number_read b bytes v is =
    some_holds (number_then b bytes) v (IsNumberRead b bytes) (then_found b bytes) is

number_back : (ds : List ℕ) (n b : ℕ) (rest : List ℕ) → IsNumeral ds n → is_digit b ≡ false →
    number_at (ds ++ b ∷ rest) ≡ Some (limited n, b ∷ rest)
unfolding number_at
number_back ds n b rest numeral other =
    let k : prefix_len is_digit (ds ++ b ∷ rest) ≡ length ds =
    prefix_all is_digit ds b rest (digits_whole ds numeral.each) other in
    let t : take (prefix_len is_digit (ds ++ b ∷ rest)) (ds ++ b ∷ rest) ≡ ds =
    ap (λ (i : ℕ). take i (ds ++ b ∷ rest)) k ∙ take-append_seam ds (b ∷ rest) in
    let d : drop (prefix_len is_digit (ds ++ b ∷ rest)) (ds ++ b ∷ rest) ≡ b ∷ rest =
    ap (λ (i : ℕ). drop i (ds ++ b ∷ rest)) k ∙ drop-append_seam ds (b ∷ rest) in
    let form : is_numeral ds ≡ true = numeral.form in
    rw (t, d, form, sym numeral.value) refl

pub number_again : (ds : List ℕ) (n b : ℕ) (rest : List ℕ) → IsNumeral ds n → is_digit b ≡ false →
    number_then b (ds ++ b ∷ rest) ≡ Some (limited n, rest)
unfolding number_then
number_again ds n b rest numeral other =
    rw (number_back ds n b rest numeral other, byte_back b rest) refl

-- ---- as numbers of states

abbrev pub clamped : ℕ → ℕ
clamped n = state_of (limited n)

pub clamped_cases : (n : ℕ) → ((n < 2 ^ 64) × (clamped n ≡ n))
    ⊎ ((2 ^ 64 ≤ n) × (clamped n ≡ 2 ^ 64 - 1))
clamped_cases n = elim (cases_lt n (2 ^ 64)) [
  | inl lt ↦ inl (lt, ap state_of (limited_some n lt))
  | inr le ↦ inr (le, ap state_of (limited_none n le))
]

pub clamped_below : (n states : ℕ) → states < 2 ^ 64 → nat_lt (clamped n) states ≡ nat_lt n states
clamped_below n states small = elim (clamped_cases n) [
  | inl h ↦ ap (λ k. nat_lt k states) h.1
  | inr h ↦
      let a : nat_lt n states ≡ false = let le : 2 ^ 64 ≤ n = h.0 in
      grind (arith, nat_tests, le, small) in
      let b : nat_lt (2 ^ 64 - 1) states ≡ false = grind (arith, nat_tests, small) in
      ap (λ k. nat_lt k states) h.1 ∙ b ∙ sym a
]

-- a number of a state stands to another as before, where the first is one that there is
pub clamped_order : (m n : ℕ) → m < 2 ^ 64 - 1 → nat_cmp m (clamped n) ≡ nat_cmp m n
clamped_order m n small = elim (clamped_cases n) [
  | inl h ↦ ap (nat_cmp m) h.1
  | inr h ↦ let le : 2 ^ 64 ≤ n = h.0 in ap (nat_cmp m) h.1 ∙ cmp_less m (2 ^ 64 - 1) small
      ∙ sym (cmp_less m n (omega arith))
]
