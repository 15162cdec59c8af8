-- Lists that take on what has a property.
use Rattle.std.proofs.Common.{◌≡◌, inl, inr, ℕ, ◌+◌, ◌<◌, List, [], ◌∷◌, ◌++◌, sym, subst, arith}
use Rattle.std.specs.Prelude.{◌↔◌}
use Rattle.std.proofs.lemmas.Bool.{cases_lt}
use Rattle.ap_fst.specs.Lists.{IsIn}
use Rattle.ap_fst.specs.Removal.{AddsWhere}
use Rattle.ap_fst.proofs.Listing.{in_front, in_back, in_either}

pub adds_none : {X : Type 0} (P : X → Type 0) (xs : List X) → ((x : X) → P x → ⊥) →
    AddsWhere P xs xs
adds_none P xs none = record {
  only = λ x i. inl i;
  stays = λ x i. i;
  there =
      λ x p. absurd (none x p);
}

pub adds_one : {X : Type 0} (P : X → Type 0) (xs ys : List X) (y : X) → ys ≡ xs ++ y ∷ [] → P y →
    ((x : X) → P x → x ≡ y) → AddsWhere P xs ys
adds_one {X} P xs ys y e p one = record {
  only = λ x i. elim (in_either x xs (y ∷ []) (subst (λ (z : List X). IsIn x z) e i)) [
    | inl k ↦ inl k
    | inr k ↦ elim k [ inl f ↦ inr (subst P (sym f) p) | inr n ↦ elim n [ ] ]
  ];
  stays = λ x i. subst (λ (z : List X). IsIn x z) (sym e) (in_front x xs (y ∷ []) i);
  there = λ x q. subst (λ (z : List X). IsIn x z) (sym e) (in_back x xs (y ∷ []) (inl (one x q)));
}

pub adds_as : {X : Type 0} (P Q : X → Type 0) (xs ys : List X) → ((x : X) → P x ↔ Q x) →
    AddsWhere P xs ys → AddsWhere Q xs ys
adds_as P Q xs ys h a = record {
  only = λ x i. elim (a.only x i) [ inl k ↦ inl k | inr p ↦ inr ((h x).0 p) ];
  stays = a.stays;
  there = λ x q. a.there x ((h x).1 q);
}

-- what has P at a number below the bound
pub record AtBelow {X : Type 0} (P : ℕ → X → Type 0) (bound : ℕ) (x : X) : Type 0 where
  pub number : ℕ
  pub below : number < bound
  pub holds : P number x

pub adds_begun : {X : Type 0} (P : ℕ → X → Type 0) (xs : List X) → AddsWhere (AtBelow P 0) xs xs
adds_begun P xs = adds_none (AtBelow P 0) xs (λ x h. let l : h.number < 0 = h.below in
    absurd (omega arith))

pub adds_next : {X : Type 0} (P : ℕ → X → Type 0) (n : ℕ) (xs ys zs : List X) →
    AddsWhere (AtBelow P n) xs ys → AddsWhere (P n) ys zs → AddsWhere (AtBelow P (n + 1)) xs zs
adds_next {X} P n xs ys zs a b = record {
  only = λ x i. elim (b.only x i) [
    | inl k ↦ elim (a.only x k) [
      | inl h ↦ inl h
      | inr h ↦
          inr (record {
            number = h.number;
            below = (let l : h.number < n = h.below in omega arith);
            holds = h.holds;
          })
    ]
    | inr p ↦ inr (record { number = n; below = omega arith; holds = p })
  ];
  stays = λ x i. b.stays x (a.stays x i);
  there = λ x h. elim (cases_lt h.number n) [
    | inl lt ↦ b.stays x (a.there x (record { number = h.number; below = lt; holds = h.holds }))
    | inr le ↦ let l : h.number < n + 1 = h.below in let same : h.number ≡ n = omega arith in
        b.there x (subst (λ (k : ℕ). P k x) same h.holds)
  ];
}

-- begun with nothing
pub adds_all : {X : Type 0} (P : X → Type 0) (xs ys : List X) → xs ≡ [] → AddsWhere P xs ys →
    (x : X) → IsIn x ys ↔ P x
adds_all {X} P xs ys e a x = (
  λ i. elim (a.only x i) [ inl k ↦ elim (subst (λ (z : List X). IsIn x z) e k) [ ] | inr p ↦ p ],
  λ p. a.there x p,
)
