-- The place of a state in an ascending list.
use Rattle.std.proofs.Common.{◌≡◌, inl, inr, ℕ, ◌+◌, ◌<◌, ◌≤◌, zero, suc, true, eqb, ltb, List, [], ◌∷◌, length, get_or, not, refl, sym, ◌∙◌, ap, subst, arith, Option, Some, None}
use Rattle.std.specs.Prelude.{◌↔◌, slice_get, IsTrue}
use Rattle.std.specs.Result.{MatchResult, result_ok, is_ok}
use Rattle.std.specs.declared.result.Result.{Result}
use Rattle.std.specs.declared.result.Result.TheVariants.{Ok, Err}
use Rattle.std.specs.List.Sorted.{IsBinarySearchResult, IsNonDecreasingBy}
use Rattle.std.specs.Ordering.{nat_cmp}
use Rattle.std.specs.declared.cmp.Ordering.TheVariants.{Less, Equal, Greater}
use Rattle.std.proofs.lemmas.Bool.{cases_eq, cases_lt, cases_Bool, cases_order, cond-true, cond-false}
use Rattle.std.proofs.lemmas.Bool.Decides.{nat_tests}
use Rattle.std.specs.List.{position_or_len}
use Rattle.std.proofs.lemmas.List.Quantifiers.{position-Some}
use Rattle.std.proofs.lemmas.List.Sorted.{searched}
use Rattle.std.proofs.lemmas.Option.{none-some, same_Some, slice_get_within, slice_get-get_or, get_or_from_slice_get}
use Rattle.ap_fst.specs.Lists.{IsIn, Ascends}
use Rattle.ap_fst.specs.Graphs.{place_of}
use Rattle.ap_fst.proofs.Listing.{in_from_place, in_at, ascends_by, placed_in, IsPlaced}

pub less_from_cmp : (x y : ℕ) → nat_cmp x y ≡ Less → x < y
less_from_cmp x y h = elim (cases_lt x y) [
  | inl l ↦ l
  | inr le ↦
      elim (cases_eq x y) [
        | inl e ↦ absurd (grind (arith, nat_tests))
        | inr d ↦
            absurd (grind (arith, nat_tests))
      ]
]

pub cmp_less : (x y : ℕ) → x < y → nat_cmp x y ≡ Less
cmp_less x y h = grind (arith, nat_tests)

pub cmp_same : (x y : ℕ) → x ≡ y → nat_cmp x y ≡ Equal
cmp_same x y h = grind (arith, nat_tests)

pub cmp_more : (x y : ℕ) → y < x → nat_cmp x y ≡ Greater
cmp_more x y h = grind (arith, nat_tests)

abbrev before_it : List ℕ → ℕ → ℕ
before_it states s = position_or_len (λ y. eqb s y) states

-- what is found is the state
pub place_some : (states : List ℕ) (s i : ℕ) → place_of states s ≡ Some i →
    slice_get states i ≡ Some s
place_some states s i h =
    let p = position-Some (λ y. eqb s y) states i s h in
    let t : eqb s (get_or states i s) ≡ true = p.1 in
    let e : s ≡ get_or states i s = grind (arith, nat_tests) in
    slice_get-get_or states i s p.0 ∙ ap Some (sym e)

low_place : (states : List ℕ) (s : ℕ) → IsIn s states → before_it states s < length states
low_place [] s h = elim h [ ]
low_place (y ∷ states) s h =
    elim (cases_eq s y) [
      | inl e ↦ let z : before_it (y ∷ states) s ≡ 0 =
          cond-false (not (eqb s y)) (1 + before_it states s) 0 (grind (arith, nat_tests))
          in omega arith
      | inr d ↦ elim h [
        | inl e ↦ absurd (d e)
        | inr k ↦
            let z : before_it (y ∷ states) s ≡ 1 + before_it states s =
            cond-true (not (eqb s y)) (1 + before_it states s) 0 (grind (arith, nat_tests)) in
            let r : before_it states s < length states = low_place states s k in omega arith
      ]
    ]

pub place_in : (states : List ℕ) (s : ℕ) → IsIn s states → (i : ℕ) × (place_of states s ≡ Some i)
place_in states s h =
    let low : before_it states s < length states = low_place states s h in (
      before_it states s,
      cond-true (ltb (before_it states s) (length states))
          (Some (before_it states s)) None (grind (arith, nat_tests)),
    )

pub place_none : (states : List ℕ) (s : ℕ) → (IsIn s states → ⊥) → place_of states s ≡ None
place_none states s h =
    elim (cases_Bool (ltb (before_it states s) (length states))) [
      | inl t ↦ absurd (h (in_from_place states (before_it states s) s
          (place_some states s (before_it states s)
          (cond-true _ (Some (before_it states s)) None t))))
      | inr f ↦ cond-false _ (Some (before_it states s)) None f
    ]

-- later places hold greater states
pub rises_at : (states : List ℕ) → Ascends nat_cmp states → (i j s t : ℕ) → i < j →
    slice_get states i ≡ Some s → slice_get states j ≡ Some t → s < t
rises_at [] a i j s t lt h g = absurd (none-some s h)
rises_at (y ∷ states) a i zero s t lt h g = absurd (omega arith)
rises_at (y ∷ states) a zero (suc j) s t lt h g = let e : y ≡ s = same_Some y s h in let k : y < t =
    less_from_cmp y t (a.0 t (in_from_place states j t g)) in omega arith
rises_at (y ∷ states) a (suc i) (suc j) s t lt h g = rises_at states a.1 i j s t (omega arith) h g

pub place_one : (states : List ℕ) → Ascends nat_cmp states → (i s : ℕ) → slice_get states i ≡ Some s
    → place_of states s ≡ Some i
place_one states a i s h =
    let (k, p) = place_in states s (in_from_place states i s h) in
    let q : slice_get states k ≡ Some s = place_some states s k p in
    elim (cases_order i k) [
      | inl e ↦ p ∙ ap Some (sym e)
      | inr o ↦ elim o [
        | inl lt ↦ let l : s < s = rises_at states a i k s s lt h q in absurd (omega arith)
        | inr gt ↦ let l : s < s = rises_at states a k i s s gt q h in absurd (omega arith)
      ]
    ]

-- places compare as the states do
pub place_cmp : (states : List ℕ) → Ascends nat_cmp states → (s t i j : ℕ) →
    place_of states s ≡ Some i → place_of states t ≡ Some j → nat_cmp i j ≡ nat_cmp s t
place_cmp states a s t i j p q =
    let h : slice_get states i ≡ Some s = place_some states s i p in
    let g : slice_get states j ≡ Some t = place_some states t j q in
    elim (cases_order i j) [
      | inl e ↦
          let same : s ≡ t = same_Some s t (sym h ∙ ap (slice_get states) e ∙ g) in
          cmp_same i j e ∙ sym (cmp_same s t same)
      | inr o ↦ elim o [
        | inl lt ↦ cmp_less i j lt ∙ sym (cmp_less s t (rises_at states a i j s t lt h g))
        | inr gt ↦ cmp_more i j gt ∙ sym (cmp_more s t (rises_at states a j i t s gt g h))
      ]
    ]

place_answer : (states : List ℕ) (s : ℕ) (r : Result ℕ ℕ) → Ascends nat_cmp states →
    MatchResult r (λ i. (i < length states) × (get_or states i 0 ≡ s)) (λ i. (i ≤ length states)
    × ((k : ℕ) → k < i → get_or states k 0 < s)
    × ((k : ℕ) → i ≤ k → k < length states → s < get_or states k 0)) →
    result_ok r ≡ place_of states s
place_answer states s (Ok i) a h =
    sym (place_one states a i s (slice_get-get_or states i 0 h.0 ∙ ap Some h.1))
place_answer states s (Err i) a h = sym (place_none states s (λ l.
    let p : IsPlaced s states = placed_in s states l in
    let lt : p.place < length states = slice_get_within states p.place s p.at in
    let is : get_or states p.place 0 ≡ s = get_or_from_slice_get states p.place s 0 p.at in
    elim (cases_lt p.place i) [
      | inl below ↦ let k : get_or states p.place 0 < s = h.1 p.place below in omega arith
      | inr le ↦ let k : s < get_or states p.place 0 = h.2 p.place le lt in omega arith
    ]))

-- what a binary search answers
pub place_searched : (states : List ℕ) (s : ℕ) (r : Result ℕ ℕ) → Ascends nat_cmp states →
    IsBinarySearchResult (λ y. nat_cmp y s) states r → (o : Option ℕ) → o ≡ result_ok r →
    o ≡ place_of states s
place_searched states s r a h o e =
    let up : IsNonDecreasingBy (λ (x : ℕ). x) states =
    ascends_by nat_cmp (λ x. x) (λ x y l. let k : x < y = less_from_cmp x y l in
    omega arith) states a in
    e ∙ place_answer states s r a (searched states s r h (λ i j le lt. up i j 0 le lt))

held_answer : (states : List ℕ) (s : ℕ) (r : Result ℕ ℕ) → Ascends nat_cmp states →
    MatchResult r (λ i. (i < length states) × (get_or states i 0 ≡ s)) (λ i. (i ≤ length states)
    × ((k : ℕ) → k < i → get_or states k 0 < s)
    × ((k : ℕ) → i ≤ k → k < length states → s < get_or states k 0)) →
    IsTrue (is_ok r) ↔ IsIn s states
held_answer states s (Ok i) a h =
    (λ t. subst (λ (z : ℕ). IsIn z states) h.1 (in_at states i 0 h.0), λ k. refl)
held_answer states s (Err i) a h = (
  λ t. absurd (cc),
  λ k. let (j, p) = place_in states s k in
      absurd (none-some j (place_answer states s (Err i) a h ∙ p)),
)

-- whether a binary search finds it
pub held_searched : (states : List ℕ) (s : ℕ) (r : Result ℕ ℕ) → Ascends nat_cmp states →
    IsBinarySearchResult (λ y. nat_cmp y s) states r → IsTrue (is_ok r) ↔ IsIn s states
held_searched states s r a h =
    let up : IsNonDecreasingBy (λ (x : ℕ). x) states =
    ascends_by nat_cmp (λ x. x) (λ x y l. let k : x < y = less_from_cmp x y l in
    omega arith) states a in
    held_answer states s r a (searched states s r h (λ i j le lt. up i j 0 le lt))
