-- Places in the order of labels.
use Rattle.std.proofs.Common.{◌≡◌, ◌⊎◌, inl, inr, ℕ, max, ◌+◌, ◌<◌, ◌≤◌, zero, suc, true, false, List, [], ◌∷◌, ◌++◌, length, get_or, refl, sym, ◌∙◌, ap, subst, arith, Option, Some, None}
use Rattle.std.specs.Prelude.{◌↔◌, slice_get, option_and_then}
use Rattle.std.specs.Option.{option_cmp}
use Rattle.std.specs.List.Sorted.{IsSortedBy, IsPermutation}
use Rattle.std.specs.Cmp.{IsTotalOrder}
use Rattle.std.specs.Ordering.{nat_cmp, ordering_then, is_lt}
use Rattle.std.specs.declared.cmp.Ordering.{Ordering}
use Rattle.std.specs.declared.cmp.Ordering.TheVariants.{Less, Equal, Greater}
use Rattle.std.proofs.lemmas.Bool.{cases_lt, true≢false}
use Rattle.std.proofs.lemmas.Cmp.{nat_cmp_total, on_total, then_total, lists_total}
use Rattle.std.proofs.lemmas.List.Sorted.{ranks_by, sorted_far}
use Rattle.std.proofs.lemmas.Option.{none-some, same_Some, slice_get_within, slice_get-get_or, get_or_from_slice_get, option_and_then_some}
use Rattle.std.specs.Cmp.Lexicographic.{slice_cmp}
use Rattle.std.specs.Option.{option_to_list}
use Rattle.ap_fst.specs.Lists.{IsIn}
use Rattle.ap_fst.specs.Order.{label_cmp}
use Rattle.ap_fst.specs.Machines.{IsSpan}
use Rattle.ap_fst.specs.Removal.{AddsWhere}
use Rattle.ap_fst.specs.declared.label.Edge.{Edge}
use Rattle.ap_fst.proofs.Listing.{in_from_place, placed_in, IsPlaced, in_permutation, from_permutation, in_either, in_front, in_back}
use Rattle.ap_fst.proofs.Adding.{AtBelow, adds_all}
use Rattle.ap_fst.proofs.OrderLaws.{label_total}
use Rattle.ap_det.specs.Exits.{exit_cmp, place_cmp, edge_at, IsPlaceOf, IsPlaceFrom, RisesByLabel}

then_equal : (r : Ordering) → ordering_then r Equal ≡ r
then_equal Less = refl
then_equal Equal = refl
then_equal Greater = refl

as_lists : {X : Type 0} (cmp : X → X → Ordering) (p q : Option X) →
    slice_cmp cmp (option_to_list p) (option_to_list q) ≡ option_cmp cmp p q
as_lists cmp None None = refl
as_lists cmp None (Some y) = refl
as_lists cmp (Some x) None = refl
as_lists cmp (Some x) (Some y) = then_equal (cmp x y)

options_total : {X : Type 0} (cmp : X → X → Ordering) → IsTotalOrder cmp →
    IsTotalOrder (option_cmp cmp)
options_total {X} cmp o =
    subst (λ (z : Option X → Option X → Ordering). IsTotalOrder z) (λ i p q. as_lists cmp p q i)
    (on_total option_to_list (lists_total o))

exit_total : IsTotalOrder exit_cmp
exit_total = then_total (on_total (λ (e : Edge). e.label) label_total)
    (on_total (λ (e : Edge). e.to) nat_cmp_total)

pub place_total : (edges : List Edge) → IsTotalOrder (place_cmp edges)
place_total edges = on_total (slice_get edges) (options_total exit_cmp exit_total)

-- ---- the edge at a number

pub record IsNamed (edges : List Edge) (places : List ℕ) (k : ℕ) (d : Edge) : Type 0 where
  pub place : ℕ
  pub place_at : slice_get places k ≡ Some place
  pub edge_is : slice_get edges place ≡ Some d

pub named : (edges : List Edge) (places : List ℕ) (k : ℕ) (d : Edge) →
    edge_at edges places k ≡ Some d → IsNamed edges places k d
named edges places k d h =
    option_and_then_some (slice_get edges) (slice_get places k) d h
    (λ p e f. record { place = p; place_at = e; edge_is = f })

pub naming : (edges : List Edge) (places : List ℕ) (k p : ℕ) (d : Edge) →
    slice_get places k ≡ Some p → slice_get edges p ≡ Some d → edge_at edges places k ≡ Some d
naming edges places k p d e f = ap (option_and_then (slice_get edges)) e ∙ f

pub number_within : (edges : List Edge) (places : List ℕ) (k : ℕ) (d : Edge) →
    edge_at edges places k ≡ Some d → k < length places
number_within edges places k d h = let n : IsNamed edges places k d = named edges places k d h in
    slice_get_within places k n.place n.place_at

-- ---- what a sort leaves

less_then : (a b : Ordering) → a ≡ Less → is_lt (ordering_then a b) ≡ true
less_then a b e = ap (λ z. is_lt (ordering_then z b)) e

pub places_rise : (edges : List Edge) (places : List ℕ) →
    IsSortedBy (λ p q. is_lt (place_cmp edges p q)) places → RisesByLabel (edge_at edges places)
places_rise edges places s = record {
  no_fall = λ i j a b le f g less.
      let m : IsNamed edges places i a = named edges places i a f in
      let n : IsNamed edges places j b = named edges places j b g in
      let within : j < length places = slice_get_within places j n.place n.place_at in
      let far : is_lt (place_cmp edges (get_or places j 0) (get_or places i 0)) ≡ false =
      sorted_far (λ p q. is_lt (place_cmp edges p q)) (ranks_by (place_total edges) (λ p. p))
      places s i j 0 le within in
      let x : slice_get edges (get_or places i 0) ≡ Some a =
      ap (slice_get edges) (get_or_from_slice_get places i m.place 0 m.place_at) ∙ m.edge_is in
      let y : slice_get edges (get_or places j 0) ≡ Some b =
      ap (slice_get edges) (get_or_from_slice_get places j n.place 0 n.place_at) ∙ n.edge_is in
      let there : is_lt (place_cmp edges (get_or places j 0) (get_or places i 0)) ≡ true =
      ap (λ o. is_lt (option_cmp exit_cmp o (slice_get edges (get_or places i 0)))) y
      ∙ ap (λ o. is_lt (option_cmp exit_cmp (Some b) o)) x
      ∙ less_then (label_cmp b.label a.label) (nat_cmp b.to a.to) less in
      true≢false (sym there ∙ far);
}

-- ---- the places of a state, and of a set

-- these numbers from low up to at were added
pub record AreAdded (low at : ℕ) (old new : List ℕ) : Type 0 where
  pub only : (p : ℕ) → IsIn p new → IsIn p old ⊎ ((low ≤ p) × (p < at))
  pub stays : (p : ℕ) → IsIn p old → IsIn p new
  pub there : (p : ℕ) → low ≤ p → p < at → IsIn p new

pub added_begun : (low : ℕ) (old : List ℕ) → AreAdded low low old old
added_begun low old = record {
  only = λ p i. inl i;
  stays = λ p i. i;
  there =
      λ p le lt. absurd (omega arith);
}

pub added_on : (low at : ℕ) (old mid new : List ℕ) → low ≤ at → AreAdded low at old mid →
    new ≡ mid ++ at ∷ [] → AreAdded low (at + 1) old new
added_on low at old mid new le h e = record {
  only = λ p i. elim (in_either p mid (at ∷ []) (subst (λ (z : List ℕ). IsIn p z) e i)) [
    | inl k ↦ elim (h.only p k) [
      | inl x ↦ inl x
      | inr x ↦ let y : p < at = x.1 in
          inr (x.0, omega arith)
    ]
    | inr k ↦ elim k [ inl f ↦ inr (omega arith, omega arith) | inr n ↦ elim n [ ] ]
  ];
  stays = λ p i. subst (λ (z : List ℕ). IsIn p z) (sym e) (in_front p mid (at ∷ []) (h.stays p i));
  there = λ p from below. elim (cases_lt p at) [
    | inl lt ↦ subst (λ (z : List ℕ). IsIn p z) (sym e)
        (in_front p mid (at ∷ []) (h.there p from lt))
    | inr ge ↦ let same : p ≡ at = omega arith in
        subst (λ (z : List ℕ). IsIn p z) (sym e) (in_back p mid (at ∷ []) (inl same))
  ];
}

edge_there : (p : ℕ) (edges : List Edge) → p < length edges →
    (e : Edge) × (slice_get edges p ≡ Some e)
edge_there p [] lt = absurd (omega arith)
edge_there zero (x ∷ edges) lt = (x, refl)
edge_there (suc p) (x ∷ edges) lt = edge_there p edges (omega arith)

place_there : (edges : List Edge) (state low high p : ℕ) → IsSpan edges state low high → low ≤ p →
    p < high → IsPlaceOf edges state p
place_there edges state low high p s from below =
    let end : high ≤ length edges = s.end in
    let (e, at) = edge_there p edges (omega arith) in
    record { edge = e; at = at; from_is = s.inside p e at from below }

pub added_span : (edges : List Edge) (state low high at : ℕ) (old new : List ℕ) →
    IsSpan edges state low high → AreAdded low at old new → at ≤ max low high → high ≤ at →
    AddsWhere (IsPlaceOf edges state) old new
added_span edges state low high at old new s h le up = record {
  only = λ p i. elim (h.only p i) [
    | inl k ↦ inl k
    | inr k ↦ let from : low ≤ p = k.0 in let below : p < at = k.1 in
        inr (place_there edges state low high p s from (omega arith))
  ];
  stays = h.stays;
  there = λ p q.
      let r : (low ≤ p) × (p < high) = s.outside p q.edge q.at q.from_is in
      let from : low ≤ p = r.0 in
      let below : p < high = r.1 in
      h.there p from (omega arith);
}

pub record PlaceAt (edges : List Edge) (set : List ℕ) (k p : ℕ) : Type 0 where
  pub state : ℕ
  pub state_at : slice_get set k ≡ Some state
  pub place : IsPlaceOf edges state p

pub place_as : (edges : List Edge) (set : List ℕ) (k state : ℕ) → slice_get set k ≡ Some state →
    (p : ℕ) → IsPlaceOf edges state p ↔ PlaceAt edges set k p
place_as edges set k state at p = (
  λ h. record { state = state; state_at = at; place = h },
  λ h. subst (λ (z : ℕ). IsPlaceOf edges z p)
      (same_Some h.state state (sym h.state_at ∙ at)) h.place,
)

-- the places of the first so many states, added to none
pub gathered_all : (edges : List Edge) (set : List ℕ) (n : ℕ) (old new : List ℕ) → old ≡ [] →
    length set ≤ n → AddsWhere (AtBelow (PlaceAt edges set) n) old new → (p : ℕ) →
    IsIn p new ↔ IsPlaceFrom edges set p
gathered_all edges set n old new none long h p = (
  λ i. let a : AtBelow (PlaceAt edges set) n p =
      (adds_all (AtBelow (PlaceAt edges set) n) old new none h p).0 i in
      record {
        edge = a.holds.place.edge;
        at = a.holds.place.at;
        from_in =
            subst (λ (z : ℕ). IsIn z set) (sym a.holds.place.from_is)
            (in_from_place set a.number a.holds.state a.holds.state_at);
      },
  λ k. let q : IsPlaced k.edge.from set = placed_in k.edge.from set k.from_in in
      let lt : q.place < length set = slice_get_within set q.place k.edge.from q.at in
      (adds_all (AtBelow (PlaceAt edges set) n) old new none h p).1 (record {
        number = q.place;
        below = omega arith;
        holds = record {
          state = k.edge.from;
          state_at = q.at;
          place =
              record { edge = k.edge; at = k.at; from_is = refl };
        };
      }),
)

-- each of these places names an edge
pub all_named : (edges : List Edge) (set places : List ℕ) →
    ((p : ℕ) → IsIn p places ↔ IsPlaceFrom edges set p) → (k : ℕ) → k < length places →
    edge_at edges places k ≡ None → ⊥
all_named edges set places h k lt none =
    let at : slice_get places k ≡ Some (get_or places k 0) = slice_get-get_or places k 0 lt in
    let p : IsPlaceFrom edges set (get_or places k 0) =
    (h (get_or places k 0)).0 (in_from_place places k (get_or places k 0) at) in
    none-some p.edge (sym none ∙ naming edges places k (get_or places k 0) p.edge at p.at)

pub sorted_members : (edges : List Edge) (set old new : List ℕ) → IsPermutation old new →
    ((p : ℕ) → IsIn p old ↔ IsPlaceFrom edges set p) → (p : ℕ) →
    IsIn p new ↔ IsPlaceFrom edges set p
sorted_members edges set old new moved h p = (
  λ i. (h p).0 (from_permutation p old new moved i),
  λ k. in_permutation p old new moved ((h p).1 k),
)
