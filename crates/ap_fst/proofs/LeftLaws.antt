-- The edges of a state with a left side stand together.
use Rattle.std.proofs.Common.{◌≡◌, ◌⊎◌, inl, inr, ℕ, ◌≤◌, List, refl, sym, ◌∙◌, ap, arith, Option, None}
use Rattle.std.specs.List.Sorted.{IsNonDecreasingBy}
use Rattle.std.specs.Cmp.{IsTotalOrder}
use Rattle.std.specs.Ordering.{nat_cmp, ordering_then, ordering_index, ordering_reverse}
use Rattle.std.specs.declared.cmp.Ordering.{Ordering}
use Rattle.std.specs.declared.cmp.Ordering.TheVariants.{Less, Equal, Greater}
use Rattle.std.proofs.lemmas.Cmp.{nat_cmp_total, on_total, then_total}
use Rattle.ap_symbol.specs.declared.symbol.Symbol.{Symbol}
use Rattle.ap_fst.specs.Lists.{Ascends, IsKeyRange}
use Rattle.ap_fst.specs.Order.{side_cmp, edge_cmp, left_cmp, left_place}
use Rattle.ap_fst.specs.Machines.{IsSpanBy}
use Rattle.ap_fst.specs.declared.label.Label.{Label}
use Rattle.ap_fst.specs.declared.label.Edge.{Edge}
use Rattle.ap_fst.proofs.Listing.{ascends_by, range_inside, range_outside}
use Rattle.ap_fst.proofs.WalkLaws.{equal_from_cmp}
use Rattle.ap_fst.proofs.OrderLaws.{side_total, side_equal, then_equal}

-- the order by state and left side alone
abbrev spot_cmp : Edge → Edge → Ordering
spot_cmp a b = ordering_then (nat_cmp a.from b.from) (side_cmp a.label.left b.label.left)

spot_total : IsTotalOrder spot_cmp
spot_total = then_total (on_total (λ (e : Edge). e.from) nat_cmp_total)
    (on_total (λ (e : Edge). e.label.left) side_total)

-- an edge of the state with the left side
abbrev spot : ℕ → Option Symbol → Edge
spot state left = record {
  from = state;
  label =
      (let l : Label = record { left = left; right = None } in l);
  to = 0;
}

not_greater : (a b c d : Ordering) → ordering_then a (ordering_then (ordering_then b c) d) ≡ Less →
    (ordering_then a b ≡ Less) ⊎ (ordering_then a b ≡ Equal)
not_greater Less b c d h = inl refl
not_greater Greater b c d h = cc
not_greater Equal Less c d h = inl refl
not_greater Equal Equal c d h = inr refl
not_greater Equal Greater c d h = cc

spot_rises : (a b : Edge) → edge_cmp a b ≡ Less → (spot_cmp a b ≡ Less) ⊎ (spot_cmp a b ≡ Equal)
spot_rises a b h = not_greater (nat_cmp a.from b.from) (side_cmp a.label.left b.label.left)
    (side_cmp a.label.right b.label.right) (nat_cmp a.to b.to) h

below_by : (x y : Ordering) → x ≡ y → ordering_index x ≤ ordering_index y
below_by x y e = let k : ordering_index x ≡ ordering_index y = ap ordering_index e in omega arith

index_rises : (a b t : Edge) (x y : Ordering) → spot_cmp a t ≡ x → spot_cmp b t ≡ y →
    spot_cmp a b ≡ Less → ordering_index x ≤ ordering_index y
index_rises a b t Less y ex ey h = omega arith
index_rises a b t Equal Greater ex ey h = omega arith
index_rises a b t Greater Greater ex ey h = omega arith
index_rises a b t Equal Equal ex ey h = omega arith
index_rises a b t Equal Less ex ey h = let k : spot_cmp a t ≡ Less = spot_total.trans a b t h ey
    in absurd (cc)
index_rises a b t Greater Less ex ey h = let k : spot_cmp a t ≡ Less = spot_total.trans a b t h ey
    in absurd (cc)
index_rises a b t Greater Equal ex ey h =
    let r : spot_cmp t b ≡ Equal = spot_total.antisymm t b ∙ ap ordering_reverse ey in
    let k : spot_cmp t a ≡ spot_cmp b a = spot_total.congr t b a r in
    let q : spot_cmp t a ≡ Less = spot_total.antisymm t a ∙ ap ordering_reverse ex in
    let z : spot_cmp b a ≡ Greater = spot_total.antisymm b a ∙ ap ordering_reverse h in
    absurd (cc)

pub place_rises : (state : ℕ) (left : Option Symbol) (a b : Edge) → edge_cmp a b ≡ Less →
    left_place state left a ≤ left_place state left b
place_rises state left a b h = elim (spot_rises a b h) [
  | inl l ↦ index_rises a b (spot state left) (left_cmp a state left)
      (left_cmp b state left) refl refl l
  | inr e ↦ below_by (left_cmp a state left) (left_cmp b state left)
      (spot_total.congr a b (spot state left) e)
]

pub places_sorted : (state : ℕ) (left : Option Symbol) (edges : List Edge) →
    Ascends edge_cmp edges → IsNonDecreasingBy (left_place state left) edges
places_sorted state left edges a =
    ascends_by edge_cmp (left_place state left) (place_rises state left) edges a

index_equal : (o : Ordering) → ordering_index o ≡ 1 → o ≡ Equal
index_equal Less h = absurd (omega arith)
index_equal Equal h = refl
index_equal Greater h = absurd (omega arith)

at_place : (state : ℕ) (left : Option Symbol) (e : Edge) → left_place state left e ≡ 1 →
    (e.from ≡ state) × (e.label.left ≡ left)
at_place state left e h =
    let p : (nat_cmp e.from state ≡ Equal) × (side_cmp e.label.left left ≡ Equal) =
    then_equal (nat_cmp e.from state) (side_cmp e.label.left left)
    (index_equal (left_cmp e state left) h) in
    (equal_from_cmp e.from state p.0, side_equal e.label.left left p.1)

self_equal : (o : Ordering) → o ≡ ordering_reverse o → o ≡ Equal
self_equal Less h = cc
self_equal Equal h = refl
self_equal Greater h = cc

place_at : (state : ℕ) (left : Option Symbol) (e : Edge) → e.from ≡ state → e.label.left ≡ left →
    left_place state left e ≡ 1
place_at state left e f l =
    let same : spot_cmp e e ≡ Equal = self_equal (spot_cmp e e) (spot_total.antisymm e e) in
    ap (λ (s : ℕ). ordering_index (ordering_then (nat_cmp e.from s) (side_cmp e.label.left left)))
    (sym f) ∙ ap (λ (o : Option Symbol). ordering_index
    (ordering_then (nat_cmp e.from e.from) (side_cmp e.label.left o))) (sym l)
    ∙ ap ordering_index same

pub span_by_range : (state : ℕ) (left : Option Symbol) (edges : List Edge) (low high : ℕ) →
    IsKeyRange (left_place state left) 1 edges low high → IsSpanBy edges state left low high
span_by_range state left edges low high r = record {
  rises = r.rises;
  end = r.end;
  inside = λ j e at le lt. at_place state left e
      (range_inside (left_place state left) 1 edges low high r j e at le lt);
  outside = λ j e at f l. range_outside (left_place state left) 1 edges low high r j e
      at (place_at state left e f l);
}
