-- The number that digits write.
use Rattle.std.proofs.Common.{◌≡◌, inl, inr, ℕ, suc, ◌+◌, ◌-◌, ◌*◌, ◌^◌, ◌<◌, ◌≤◌, List, [], ◌∷◌, length, drop, get_or, refl, sym, ◌∙◌, ap, arith, Some, None, nat_lt, true, false}
use Rattle.std.proofs.lemmas.Bool.{cases_lt}
use Rattle.std.proofs.lemmas.Bool.Decides.{nat_tests}
use Rattle.std.proofs.Math.Seq.{drop-cons}
use Rattle.std.proofs.lemmas.List.{drop_all}
use Rattle.ap_binary.specs.Pieces.{value_after, limited}

pub value_grows : (n : ℕ) (ds : List ℕ) → n ≤ value_after n ds
value_grows n [] = omega arith
value_grows n (d ∷ ds) = let h : n * 10 + (d - 48) ≤ value_after (n * 10 + (d - 48)) ds =
    value_grows (n * 10 + (d - 48)) ds in omega arith

pub limited_none : (n : ℕ) → 2 ^ 64 ≤ n → limited n ≡ None
limited_none n h = let b : nat_lt n (2 ^ 64) ≡ false = grind (arith, nat_tests) in rw b refl

pub limited_some : (n : ℕ) → n < 2 ^ 64 → limited n ≡ Some n
limited_some n h = let b : nat_lt n (2 ^ 64) ≡ true = grind (arith, nat_tests) in rw b refl

pub none_limited : (n : ℕ) → None ≡ limited n → 2 ^ 64 ≤ n
none_limited n h = elim (cases_lt n (2 ^ 64)) [
  | inl lt ↦
      absurd (let e : None ≡ Some n = h ∙ limited_some n lt in cc)
  | inr le ↦ le
]

pub some_limited : (m n : ℕ) → Some m ≡ limited n → (m ≡ n) × (n < 2 ^ 64)
some_limited m n h = elim (cases_lt n (2 ^ 64)) [
  | inl lt ↦
      (let e : Some m ≡ Some n = h ∙ limited_some n lt in cc, lt)
  | inr le ↦
      absurd (let e : Some m ≡ None = h ∙ limited_none n le in cc)
]

pub value_more : (v i d : ℕ) (ds : List ℕ) → i < length ds → value_after v (drop i ds)
    ≡ value_after (v * 10 + (get_or ds i d - 48)) (drop (i + 1) ds)
value_more v i d ds lt = let e : i + 1 ≡ suc i = omega arith in rw e (rw (drop-cons ds i d lt) refl)

pub stops_at : (v i d : ℕ) (ds : List ℕ) → i < length ds →
    None ≡ limited (v * 10 + (get_or ds i d - 48)) → value_after v (drop i ds) ≡ value_after 0 ds →
    None ≡ limited (value_after 0 ds)
stops_at v i d ds lt none same =
    let next : ℕ = v * 10 + (get_or ds i d - 48) in
    let big : 2 ^ 64 ≤ next = none_limited next none in
    let up : next ≤ value_after next (drop (i + 1) ds) = value_grows next (drop (i + 1) ds) in
    let e : value_after next (drop (i + 1) ds) ≡ value_after 0 ds =
    sym (value_more v i d ds lt) ∙ same in
    sym (limited_none (value_after 0 ds) (omega arith))

pub is_read : (v i : ℕ) (ds : List ℕ) → length ds ≤ i → v < 2 ^ 64 → value_after v (drop i ds)
    ≡ value_after 0 ds → Some v ≡ limited (value_after 0 ds)
is_read v i ds le small same =
    let e : value_after v (drop i ds) ≡ v = rw (drop_all i ds le) refl in
    let k : v ≡ value_after 0 ds = sym e ∙ same in
    rw (sym k) (sym (limited_some v small))

pub goes_on : (v next i d : ℕ) (ds : List ℕ) → i < length ds →
    Some next ≡ limited (v * 10 + (get_or ds i d - 48)) → value_after v (drop i ds)
    ≡ value_after 0 ds → (value_after next (drop (i + 1) ds) ≡ value_after 0 ds) × (next < 2 ^ 64)
goes_on v next i d ds lt some same =
    let k : (next ≡ v * 10 + (get_or ds i d - 48)) × (v * 10 + (get_or ds i d - 48) < 2 ^ 64) =
    some_limited next (v * 10 + (get_or ds i d - 48)) some in (
      ap (λ z. value_after z (drop (i + 1) ds)) k.0 ∙ sym (value_more v i d ds lt) ∙ same,
      omega (arith, k.0, k.1),
    )
