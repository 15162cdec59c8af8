-- Lists of states that grow, and what is reached over arcs.
use Rattle.std.proofs.Common.{◌≡◌, ◌⊎◌, inl, inr, ℕ, ◌+◌, ◌<◌, zero, suc, true, eqb, List, [], ◌∷◌, ◌++◌, map, length, refl, sym, ◌∙◌, ap, subst, append_assoc, append-nil, arith, Option, Some, None}
use Rattle.std.specs.Prelude.{slice_get}
use Rattle.std.specs.List.{list_any}
use Rattle.std.proofs.lemmas.Bool.{cases_eq, cases_lt, cases_Bool, cond-true, cond-false}
use Rattle.std.proofs.lemmas.Bool.Decides.{nat_tests}
use Rattle.std.proofs.lemmas.Option.{slice_get_within, same_Some, none-some}
use Rattle.ap_fst.specs.Lists.{IsIn}
use Rattle.ap_fst.specs.Graphs.{arc_from, arc_to, arcs_at, with_state, Grows, Reaches, begins, follows}
use Rattle.ap_fst.specs.declared.graph.Arc.{Arc}
use Rattle.ap_fst.proofs.Listing.{in_front, in_back, in_either, in_map, in_mapped, IsImage, in_filter, filter_in, IsKept, placed_in, IsPlaced, in_from_place as in_place}

pub in_from_any : (x : ℕ) (xs : List ℕ) → list_any (λ y. eqb x y) xs ≡ true → IsIn x xs
in_from_any x [] h = cc
in_from_any x (y ∷ ys) h =
    elim (cases_eq x y) [
      | inl e ↦ inl e
      | inr d ↦
          inr (in_from_any x ys (grind (arith, nat_tests)))
    ]

pub any_from_in : (x : ℕ) (xs : List ℕ) → IsIn x xs → list_any (λ y. eqb x y) xs ≡ true
any_from_in x [] h = elim h [ ]
any_from_in x (y ∷ ys) (inl e) = grind (arith, nat_tests)
any_from_in x (y ∷ ys) (inr h) = let k : list_any (λ z. eqb x z) ys ≡ true = any_from_in x ys h in
    grind (arith, nat_tests)

grows_by : (old : List ℕ) (s : ℕ) (new : List ℕ) → new ≡ with_state old s → Grows old (s ∷ []) new
grows_by old s new e =
    elim (cases_Bool (list_any (λ y. eqb s y) old)) [
      | inl b ↦ let same : new ≡ old = e ∙ cond-true _ old (old ++ s ∷ []) b in
          record {
            more = [];
            grown = same ∙ sym (append-nil old);
            there = λ x i. elim i [
              | inl f ↦
                  subst (λ (z : List ℕ). IsIn x z) (sym same)
                  (subst (λ (z : ℕ). IsIn z old) (sym f) (in_from_any s old b))
              | inr n ↦
                  elim n [ ]
            ];
            only = λ x i. elim i [ ];
          }
      | inr b ↦ let longer : new ≡ old ++ s ∷ [] = e ∙ cond-false _ old (old ++ s ∷ []) b in
          record {
            more = s ∷ [];
            grown = longer;
            there = λ x i. subst (λ (z : List ℕ). IsIn x z) (sym longer) (in_back x old (s ∷ []) i);
            only = λ x i. i;
          }
    ]

pub grows_one : (old : List ℕ) (s : ℕ) (new : List ℕ) → new ≡ with_state old s →
    Grows old (s ∷ []) new
grows_one = grows_by

pub grows_keeps : (old added new : List ℕ) (x : ℕ) → Grows old added new → IsIn x old → IsIn x new
grows_keeps old added new x g i =
    subst (λ (z : List ℕ). IsIn x z) (sym g.grown) (in_front x old g.more i)

pub grows_only : (old added new : List ℕ) (x : ℕ) → Grows old added new → IsIn x new →
    IsIn x old ⊎ IsIn x added
grows_only old added new x g i =
    elim (in_either x old g.more (subst (λ (z : List ℕ). IsIn x z) g.grown i)) [
      | inl k ↦ inl k
      | inr k ↦ inr (g.only x k)
    ]

pub grows_then : (old a mid b new both : List ℕ) → both ≡ a ++ b → Grows old a mid →
    Grows mid b new → Grows old both new
grows_then old a mid b new both e g h = record {
  more = g.more ++ h.more;
  grown = h.grown ∙ ap (λ z. z ++ h.more) g.grown ∙ append_assoc old g.more h.more;
  there = λ x i. elim (in_either x a b (subst (λ (z : List ℕ). IsIn x z) e i)) [
    | inl k ↦ grows_keeps mid b new x h (g.there x k)
    | inr k ↦ h.there x k
  ];
  only = λ x i. subst (λ (z : List ℕ). IsIn x z) (sym e) (elim (in_either x g.more h.more i) [
    | inl k ↦ in_front x a b (g.only x k)
    | inr k ↦ in_back x a b (h.only x k)
  ]);
}

-- ---- what is reached

-- so far: all that is listed is reached, the starts are listed, and so is all that leads on from
-- the first places
pub record IsReaching (arcs : List Arc) (starts set : List ℕ) (at : ℕ) : Type 0 where
  pub sound : (s : ℕ) → IsIn s set → Reaches arcs starts s
  pub started : (s : ℕ) → IsIn s starts → IsIn s set
  pub closed : (k s : ℕ) → slice_get set k ≡ Some s → k < at → (a : Arc) → IsIn a arcs →
      a.from ≡ s → IsIn a.to set

pub reaching_begun : (arcs : List Arc) (starts before set : List ℕ) → before ≡ [] →
    Grows before starts set → IsReaching arcs starts set 0
reaching_begun arcs starts before set none g = record {
  sound = λ s i. elim (grows_only before starts set s g i) [
    | inl k ↦ elim (subst (λ (z : List ℕ). IsIn s z) none k) [ ]
    | inr k ↦ begins k
  ];
  started = g.there;
  closed = λ k s at lt a i f. absurd (omega arith);
}

pub longer_old : (old more : List ℕ) (k x : ℕ) → k < length old → slice_get (old ++ more) k ≡ Some x →
    slice_get old k ≡ Some x
longer_old [] more k x lt h = absurd (omega arith)
longer_old (y ∷ old) more zero x lt h = h
longer_old (y ∷ old) more (suc k) x lt h = longer_old old more k x (omega arith) h

pub reaching_on : (arcs : List Arc) (starts set new : List ℕ) (at s : ℕ) →
    Some s ≡ slice_get set at → Grows set (map arc_to (arcs_at arcs s)) new →
    IsReaching arcs starts set at → IsReaching arcs starts new (at + 1)
reaching_on arcs starts set new at s here g r =
    let within : at < length set = slice_get_within set at s (sym here) in
    record {
      sound = λ x i. elim (grows_only set (map arc_to (arcs_at arcs s)) new x g i) [
        | inl k ↦ r.sound x k
        | inr k ↦
            let m : IsImage arc_to x (arcs_at arcs s) = in_mapped arc_to x (arcs_at arcs s) k in
            let f : IsKept (λ a. eqb (arc_from a) s) m.source arcs =
            filter_in (λ a. eqb (arc_from a) s) m.source arcs m.listed in
            let same : m.source.from ≡ s = let t : eqb (arc_from m.source) s ≡ true = f.passes in
            grind (arith, nat_tests) in
            let P : ℕ → Type 0 = λ z. Reaches arcs starts z in
            follows m.source (subst P (sym same) (r.sound s (in_place set at s (sym here))))
            f.listed m.image
      ];
      started = λ x i. grows_keeps set (map arc_to (arcs_at arcs s)) new x g (r.started x i);
      closed = λ k x there lt a i f.
          let old : slice_get set k ≡ Some x =
          longer_old set g.more k x (omega arith)
          (subst (λ (z : List ℕ). slice_get z k ≡ Some x) g.grown there) in
          elim (cases_lt k at) [
            | inl below ↦ grows_keeps set (map arc_to (arcs_at arcs s)) new a.to g
                (r.closed k x old below a i f)
            | inr le ↦
                let same : k ≡ at = omega arith in
                let one : Some x ≡ Some s = sym old ∙ ap (slice_get set) same ∙ sym here in
                let is : a.from ≡ s = f ∙ same_Some x s one in
                g.there a.to (in_map arc_to a (arcs_at arcs s)
                (in_filter (λ b. eqb (arc_from b) s) a arcs i (grind (arith, nat_tests))))
          ];
    }

pub few_left : (set : List ℕ) (at k x : ℕ) → None ≡ slice_get set at → slice_get set k ≡ Some x → k < at
few_left [] at k x done h = absurd (none-some x h)
few_left (y ∷ set) zero k x done h = absurd (none-some y done)
few_left (y ∷ set) (suc at) zero x done h = omega arith
few_left (y ∷ set) (suc at) (suc k) x done h = let l : k < at = few_left set at k x done h
    in omega arith

pub reached_all : (arcs : List Arc) (starts set : List ℕ) (at s : ℕ) → None ≡ slice_get set at →
    IsReaching arcs starts set at → Reaches arcs starts s → IsIn s set
reached_all arcs starts set at s done r (begins i) = r.started s i
reached_all arcs starts set at s done r (follows a before i e) =
    let p : IsPlaced a.from set =
    placed_in a.from set (reached_all arcs starts set at a.from done r before) in
    let lt : p.place < at = few_left set at p.place a.from done p.at in
    subst (λ (z : ℕ). IsIn z set) (sym e) (r.closed p.place a.from p.at lt a i refl)

pub none_from_not : (o : Option ℕ) → ((x : ℕ) → o ≡ Some x → ⊥) → None ≡ o
none_from_not None h = refl
none_from_not (Some x) h = absurd (h x refl)
