-- Where the items with one key end, in a list whose keys do not fall.
use Rattle.std.proofs.Common.{◌≡◌, inl, inr, ℕ, ◌+◌, ◌<◌, ◌≤◌, true, false, ltb, leb, List, length, get_or, arith, ap, ◌∙◌}
use Rattle.std.specs.List.Sorted.{IsNonDecreasingBy, IsPartitionPoint}
use Rattle.std.proofs.lemmas.List.{get_or_default}
use Rattle.std.proofs.lemmas.Bool.{cases_lt, cases_eq}
use Rattle.std.proofs.lemmas.Bool.Decides.{nat_tests}

-- before the place where smaller keys end
pub not_later : {X : Type 0} (key : X → ℕ) (s : ℕ) (xs : List X) (low : ℕ) → low ≤ length xs →
    IsPartitionPoint (λ x. ltb (key x) s ≡ true) (λ x. ltb (key x) s ≡ false) xs low →
    (k : ℕ) (d : X) → k < low → key (get_or xs k d) ≤ s
not_later key s xs low end p k d lt = let t : ltb (key (get_or xs k d)) s ≡ true =
    p.0 k d (omega arith) lt in grind (arith, nat_tests)

-- one item more with this key
pub not_later_more : {X : Type 0} (key : X → ℕ) (s : ℕ) (xs : List X) (high : ℕ) (e : X) →
    high < length xs → key (get_or xs high e) ≡ s →
    ((k : ℕ) (d : X) → k < high → key (get_or xs k d) ≤ s) → (k : ℕ) (d : X) → k < high + 1 →
    key (get_or xs k d) ≤ s
not_later_more key s xs high e within same before k d lt = elim (cases_lt k high) [
  | inl low ↦ before k d low
  | inr le ↦
      let at : k ≡ high = omega arith in
      let read : key (get_or xs k d) ≡ s =
      ap (λ n. key (get_or xs n d)) at ∙ ap key (get_or_default xs high d e within) ∙ same in
      omega arith
]

-- The keys have risen here.
pub later_end : {X : Type 0} (key : X → ℕ) (s : ℕ) (xs : List X) (low high : ℕ) (e : X) →
    IsNonDecreasingBy key xs →
    IsPartitionPoint (λ x. ltb (key x) s ≡ true) (λ x. ltb (key x) s ≡ false) xs low → low ≤ high →
    high < length xs → (key (get_or xs high e) ≡ s → ⊥)
    → ((k : ℕ) (d : X) → k < high → key (get_or xs k d) ≤ s) →
    IsPartitionPoint (λ x. leb (key x) s ≡ true) (λ x. leb (key x) s ≡ false) xs high
later_end key s xs low high e sorted p from within other before = (
  (λ k d z lt. let le : key (get_or xs k d) ≤ s = before k d lt in grind (arith, nat_tests)),
  (λ k d le lt.
      let here : key (get_or xs high e) ≡ key (get_or xs high d) =
      ap key (get_or_default xs high e d within) in
      let up : key (get_or xs high d) ≤ key (get_or xs k d) = sorted high k d le lt in
      let t : ltb (key (get_or xs high d)) s ≡ false = p.1 high d from within in
      let ge : s ≤ key (get_or xs high d) = grind (arith, nat_tests) in
      elim (cases_eq (key (get_or xs high e)) s) [
        | inl same ↦ absurd (other same)
        | inr differs ↦
            grind (arith, nat_tests)
      ]),
)

-- No item follows.
pub last_end : {X : Type 0} (key : X → ℕ) (s : ℕ) (xs : List X) (high : ℕ) → length xs ≤ high →
    ((k : ℕ) (d : X) → k < high → key (get_or xs k d) ≤ s) →
    IsPartitionPoint (λ x. leb (key x) s ≡ true) (λ x. leb (key x) s ≡ false) xs high
last_end key s xs high end before = (
  (λ k d z lt. let le : key (get_or xs k d) ≤ s = before k d lt in grind (arith, nat_tests)),
  (λ k d le lt. absurd (omega arith)),
)
