-- The states that two lists share.
use Rattle.std.proofs.Common.{◌≡◌, inl, inr, ℕ, ◌+◌, ◌<◌, eqb, List, [], ◌∷◌, ◌++◌, length, sym, ◌∙◌, ap, subst, arith, Some}
use Rattle.std.specs.Prelude.{◌↔◌, slice_get}
use Rattle.std.specs.List.{dedup, AllByRecursion}
use Rattle.std.specs.List.Sorted.{IsPermutation, IsSorted, IsStrictlySortedBy}
use Rattle.std.specs.Ordering.{nat_cmp, eq_by_cmp}
use Rattle.std.specs.declared.cmp.Ordering.{Ordering}
use Rattle.std.specs.declared.cmp.Ordering.TheVariants.{Less}
use Rattle.std.proofs.lemmas.Bool.{cases_eq, cases_lt}
use Rattle.std.proofs.lemmas.Bool.Decides.{nat_tests}
use Rattle.std.proofs.lemmas.Cmp.{nat_cmp_total}
use Rattle.std.proofs.lemmas.List.Kept.{IsStrictlySortedBy-dedup, Contains-dedup_nat, Contains-from_dedup}
use Rattle.std.proofs.lemmas.Option.{same_Some, slice_get_within}
use Rattle.ap_fst.specs.Lists.{IsIn, Ascends}
use Rattle.ap_fst.specs.Graphs.{AddsCommon, IsSharedAt, AreBelow}
use Rattle.ap_fst.specs.Removal.{AddsWhere}
use Rattle.ap_fst.proofs.Listing.{in_front, in_back, in_either, in_from_place, placed_in, IsPlaced, in_contains, contains_in, in_permutation, from_permutation}

pub adds_push : (a b : List ℕ) (at s : ℕ) (old new : List ℕ) → slice_get a at ≡ Some s → IsIn s b →
    new ≡ old ++ s ∷ [] → AddsCommon a b at old new
adds_push a b at s old new here listed e = record {
  only = λ x i. elim (in_either x old (s ∷ []) (subst (λ (z : List ℕ). IsIn x z) e i)) [
    | inl k ↦ inl k
    | inr k ↦ elim k [
      | inl f ↦
          inr (here ∙ ap Some (sym f), subst (λ (z : ℕ). IsIn z b) (sym f) listed)
      | inr n ↦ elim n [ ]
    ]
  ];
  stays = λ x i. subst (λ (z : List ℕ). IsIn x z) (sym e) (in_front x old (s ∷ []) i);
  there = λ x h i. subst (λ (z : List ℕ). IsIn x z) (sym e)
      (in_back x old (s ∷ []) (inl (same_Some x s (sym h ∙ here))));
}

-- so far: what is listed is in both, and what is in both among the first of a is listed
pub record AreCommon (a b : List ℕ) (at : ℕ) (both : List ℕ) : Type 0 where
  pub sound : (s : ℕ) → IsIn s both → IsIn s a × IsIn s b
  pub there : (k s : ℕ) → k < at → slice_get a k ≡ Some s → IsIn s b → IsIn s both

pub common_on : (a b : List ℕ) (at : ℕ) (old new : List ℕ) → AddsCommon a b at old new →
    AreCommon a b at old → AreCommon a b (at + 1) new
common_on a b at old new g r = record {
  sound = λ s i. elim (g.only s i) [
    | inl k ↦ r.sound s k
    | inr k ↦
        (in_from_place a at s k.0, k.1)
  ];
  there = λ k s lt h i. elim (cases_lt k at) [
    | inl below ↦ g.stays s (r.there k s below h i)
    | inr le ↦ let same : k ≡ at = omega arith in g.there s (sym (ap (slice_get a) same) ∙ h) i
  ];
}

pub common_all : (a b both : List ℕ) (n : ℕ) → n ≡ length a → AreCommon a b n both → (s : ℕ) →
    IsIn s both ↔ IsIn s a × IsIn s b
common_all a b both n e r s = (
  r.sound s,
  λ (i, k).
      let p : IsPlaced s a = placed_in s a i in
      let lt : p.place < length a = slice_get_within a p.place s p.at in
      r.there p.place s (omega arith) p.at k,
)

-- ---- sorted, and each once

all_in : {X : Type 0} (P : X → Type 0) (xs : List X) → AllByRecursion P xs → (y : X) →
    IsIn y xs → P y
all_in P [] a y i = elim i [ ]
all_in P (x ∷ xs) a y (inl e) = subst P (sym e) a.0
all_in P (x ∷ xs) a y (inr i) = all_in P xs a.1 y i

pub ascends_from_sorted : {X : Type 0} (cmp : X → X → Ordering) (xs : List X) →
    IsStrictlySortedBy cmp xs → Ascends cmp xs
unfolding IsStrictlySortedBy
ascends_from_sorted cmp [] s = tt
ascends_from_sorted cmp (x ∷ xs) s =
    (all_in (λ y. cmp x y ≡ Less) xs s.0, ascends_from_sorted cmp xs s.1)

same_test : (x y : ℕ) → eqb x y ≡ eq_by_cmp nat_cmp x y
same_test x y = elim (cases_lt x y) [
  | inl h ↦ grind (arith, nat_tests)
  | inr h ↦
      elim (cases_eq x y) [ inl e ↦ grind (arith, nat_tests) | inr d ↦ grind (arith, nat_tests) ]
]

pub ascends_dedup : (xs ys : List ℕ) → IsSorted nat_cmp xs → ys ≡ dedup eqb xs → Ascends nat_cmp ys
ascends_dedup xs ys s e = let P : List ℕ → Type 0 = λ z. Ascends nat_cmp z in
    subst P (sym e) (ascends_from_sorted nat_cmp (dedup eqb xs)
    (IsStrictlySortedBy-dedup nat_cmp_total same_test xs s))

pub dedup_holds : (old xs ys a b : List ℕ) → IsPermutation old xs → ys ≡ dedup eqb xs →
    ((s : ℕ) → IsIn s old ↔ IsIn s a × IsIn s b) → (s : ℕ) → IsIn s ys ↔ IsIn s a × IsIn s b
dedup_holds old xs ys a b p e h s = (
  λ i. (h s).0 (from_permutation s old xs p
      (contains_in s xs (Contains-from_dedup eqb xs s
      (in_contains s (dedup eqb xs) (subst (λ (z : List ℕ). IsIn s z) e i))))),
  λ k. subst (λ (z : List ℕ). IsIn s z) (sym e)
      (contains_in s (dedup eqb xs)
      (Contains-dedup_nat xs s (in_contains s xs (in_permutation s old xs p ((h s).1 k))))),
)

-- ---- below a bound

pub below_begun : (a b both : List ℕ) → both ≡ [] → AreBelow a b 0 both
below_begun a b both e s = let P : List ℕ → Type 0 = λ z. IsIn s z in
    (λ i. elim (subst P e i) [ ], λ k. let l : s < 0 = k.0 in absurd (omega arith))

pub below_on : (a b : List ℕ) (n : ℕ) (old new : List ℕ) → AddsWhere (IsSharedAt a b n) old new →
    AreBelow a b n old → AreBelow a b (n + 1) new
below_on a b n old new g r s = (
  λ i. elim (g.only s i) [
    | inl k ↦ let h : (s < n) × IsIn s a × IsIn s b = (r s).0 k in let l : s < n = h.0 in
        (omega arith, h.1, h.2)
    | inr h ↦ let f : s ≡ n = h.0 in (omega arith, h.1, h.2)
  ],
  λ h. let l : s < n + 1 = h.0 in elim (cases_lt s n) [
    | inl lt ↦ g.stays s ((r s).1 (lt, h.1, h.2))
    | inr le ↦ let f : s ≡ n = omega arith in g.there s (f, h.1, h.2)
  ],
)

pub below_all : (a b both : List ℕ) (n : ℕ) → ((s : ℕ) → IsIn s a → s < n) → AreBelow a b n both →
    (s : ℕ) → IsIn s both ↔ IsIn s a × IsIn s b
below_all a b both n low r s =
    (λ i. (((r s).0 i).1, ((r s).0 i).2), λ h. (r s).1 (low s h.0, h.0, h.1))

pub below_end : (a b both : List ℕ) (n bound : ℕ) → n ≡ bound → AreBelow a b n both →
    AreBelow a b bound both
below_end a b both n bound e r = subst (λ (z : ℕ). AreBelow a b z both) e r
