-- A trimmed transducer is what trimming leaves of it.
use Rattle.std.proofs.Common.{◌≡◌, inl, inr, ℕ, suc, zero, ◌<◌, List, [], ◌∷◌, ◌++◌, refl, sym, subst, arith}
use Rattle.std.specs.Prelude.{◌↔◌}
use Rattle.std.specs.Ordering.{nat_cmp}
use Rattle.std.proofs.lemmas.Bool.{cases_lt}
use Rattle.ap_fst.specs.Lists.{IsIn, Ascends}
use Rattle.ap_fst.specs.Machines.{Machine, IsMachine}
use Rattle.ap_fst.specs.Trimming.{IsReached, IsFinishing, IsTrimmed, IsUseful, IsTrimOf}
use Rattle.ap_fst.specs.Walks.{ends}
use Rattle.ap_fst.proofs.Listing.{in_front, in_back, in_either, ascends_push}
use Rattle.ap_fst.proofs.PlaceLaws.{cmp_less}
use Rattle.ap_fst.proofs.Trims.{trimmed_back}
use Rattle.ap_fst.proofs.WalkLaws.{walk_within}

-- the numbers below this one
below : ℕ → List ℕ
below zero = []
below (suc n) = below n ++ n ∷ []

in_below : (n s : ℕ) → IsIn s (below n) → s < n
unfolding below
in_below zero s i = elim i [ ]
in_below (suc n) s i = elim (in_either s (below n) (n ∷ []) i) [
  | inl k ↦ let lt : s < n = in_below n s k in omega arith
  | inr k ↦ elim k [ inl e ↦ omega arith | inr z ↦ elim z [ ] ]
]

below_in : (n s : ℕ) → s < n → IsIn s (below n)
unfolding below
below_in zero s lt = absurd (omega arith)
below_in (suc n) s lt = elim (cases_lt s n) [
  | inl h ↦ in_front s (below n) (n ∷ []) (below_in n s h)
  | inr h ↦ in_back s (below n) (n ∷ []) (inl (let e : s ≡ n = omega arith in e))
]

below_ascends : (n : ℕ) → Ascends nat_cmp (below n)
unfolding below
below_ascends zero = tt
below_ascends (suc n) = ascends_push nat_cmp (below n) n (below_ascends n)
    (λ x i. cmp_less x n (in_below n x i))

start_finishing : (m : Machine) (f : ℕ) → IsMachine m → IsTrimmed m → IsIn f m.finals →
    IsFinishing m 0
start_finishing m f ok t i = elim (cases_lt 0 f) [
  | inl some ↦ let r : IsReached m f = t.reached f some (ok.finals_in f i) in
      record { labels = r.labels; last = f; final = i; walk = r.walk }
  | inr le ↦ let z : 0 ≡ f = omega arith in
      record { labels = []; last = f; final = i; walk = ends z }
]

useful : (m : Machine) (f s : ℕ) → IsMachine m → IsTrimmed m → IsIn f m.finals →
    s < m.states → IsUseful m s
useful m f s ok t i lt = elim (cases_lt 0 s) [
  | inl some ↦ (t.reached s some lt, t.finishing s some lt)
  | inr le ↦ let z : 0 ≡ s = omega arith in
      subst (λ k. IsUseful m k) z (
        record { labels = []; walk = ends refl },
        start_finishing m f ok t i,
      )
]

with_finals : (m : Machine) (f : ℕ) → IsMachine m → IsTrimmed m → IsIn f m.finals → IsTrimOf m m
with_finals m f ok t i =
    let exactly : (s : ℕ) → IsIn s (below m.states) ↔ IsUseful m s =
    λ s. (
      (λ k. useful m f s ok t i (in_below m.states s k)),
      (λ u. below_in m.states s (walk_within m 0 s u.0.labels ok ok.some u.0.walk)),
    ) in
    record {
      states = below m.states;
      ascend = below_ascends m.states;
      exactly = exactly;
      is =
          sym (trimmed_back (below m.states) m (below_ascends m.states) exactly ok t);
    }

without_finals : (m : Machine) → IsMachine m → IsTrimmed m → m.finals ≡ [] → IsTrimOf m m
without_finals m ok t none =
    let exactly : (s : ℕ) → IsIn s [] ↔ IsUseful m s =
    λ s. ((λ k. elim k [ ]), (λ u. subst (λ (z : List ℕ). IsIn u.1.last z) none u.1.final)) in
    record {
      states = [];
      ascend = tt;
      exactly = exactly;
      is =
          sym (trimmed_back [] m tt exactly ok t);
    }

by_finals : (m : Machine) (fs : List ℕ) → IsMachine m → IsTrimmed m → m.finals ≡ fs → IsTrimOf m m
by_finals m [] ok t e = without_finals m ok t e
by_finals m (f ∷ fs) ok t e =
    with_finals m f ok t (subst (λ (z : List ℕ). IsIn f z) (sym e) (inl refl))

pub trim_of_itself : (m : Machine) → IsMachine m → IsTrimmed m → IsTrimOf m m
trim_of_itself m ok t = by_finals m m.finals ok t refl
