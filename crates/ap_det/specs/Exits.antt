-- Of the inside: no public contract stands on this file.
use Rattle.std.specs.Prelude.{◌≡◌, ◌↔◌, ℕ, ◌<◌, ◌≤◌, List, [], ◌∷◌, ◌++◌, Option, Some, slice_get, length, option_and_then}
use Rattle.std.specs.Option.{option_cmp}
use Rattle.std.specs.Ordering.{nat_cmp, ordering_then}
use Rattle.std.specs.declared.cmp.Ordering.{Ordering}
use Rattle.std.specs.declared.cmp.Ordering.TheVariants.{Less}
use Rattle.ap_fst.specs.Lists.{IsIn, Ascends}
use Rattle.ap_fst.specs.Order.{label_cmp}
use Rattle.ap_fst.specs.declared.label.Label.{Label}
use Rattle.ap_fst.specs.declared.label.Edge.{Edge}

-- the order of the edges that leave a set of states: by label, then by the state that they enter
abbrev pub exit_cmp : Edge → Edge → Ordering
exit_cmp a b = ordering_then (label_cmp a.label b.label) (nat_cmp a.to b.to)

-- the order of places among edges, by what stands there
abbrev pub place_cmp : List Edge → ℕ → ℕ → Ordering
place_cmp edges p q = option_cmp exit_cmp (slice_get edges p) (slice_get edges q)

-- the edge that the place with this number names
abbrev pub edge_at : List Edge → List ℕ → ℕ → Option Edge
edge_at edges places k = option_and_then (slice_get edges) (slice_get places k)

-- a place of an edge that leaves the state
pub record IsPlaceOf (edges : List Edge) (state p : ℕ) : Type 0 where
  pub edge : Edge
  pub at : slice_get edges p ≡ Some edge
  pub from_is : edge.from ≡ state

-- a place of an edge that leaves one of these states
pub record IsPlaceFrom (edges : List Edge) (set : List ℕ) (p : ℕ) : Type 0 where
  pub edge : Edge
  pub at : slice_get edges p ≡ Some edge
  pub from_in : IsIn edge.from set

-- In what follows, edges are numbered by a function.

-- labels do not fall
pub record RisesByLabel (edge_of : ℕ → Option Edge) : Type 0 where
  pub no_fall : (i j : ℕ) (a b : Edge) → i ≤ j → edge_of i ≡ Some a → edge_of j ≡ Some b →
      label_cmp b.label a.label ≡ Less → ⊥

-- the edge with this number has the label
pub record HasLabel (edge_of : ℕ → Option Edge) (k : ℕ) (label : Label) : Type 0 where
  pub edge : Edge
  pub at : edge_of k ≡ Some edge
  pub label_is : edge.label ≡ label

-- the edges from low up to high have this label, and the next has it not
pub record IsGroup (edge_of : ℕ → Option Edge) (label : Label) (low high : ℕ) : Type 0 where
  pub rises : low ≤ high
  pub same : (k : ℕ) (d : Edge) → low ≤ k → k < high → edge_of k ≡ Some d → d.label ≡ label
  pub other : HasLabel edge_of high label → ⊥

-- the edge with this number leads to the state
pub record LeadsAt (edge_of : ℕ → Option Edge) (k t : ℕ) : Type 0 where
  pub edge : Edge
  pub at : edge_of k ≡ Some edge
  pub to_is : t ≡ edge.to

-- an edge from low up to high leads to the state
pub record LeadsWithin (edge_of : ℕ → Option Edge) (low high t : ℕ) : Type 0 where
  pub number : ℕ
  pub above : low ≤ number
  pub below : number < high
  pub leads : LeadsAt edge_of number t

-- an edge with this label leads to the state
pub record LeadsBy (edge_of : ℕ → Option Edge) (label : Label) (t : ℕ) : Type 0 where
  pub number : ℕ
  pub edge : Edge
  pub at : edge_of number ≡ Some edge
  pub label_is : edge.label ≡ label
  pub to_is : t ≡ edge.to

-- the edges from low up to high, all with one label, give one edge: it leads to the number of the
-- set of the states that they lead to
pub record AddsGroup (edge_of : ℕ → Option Edge) (from low high : ℕ) (old_sets sets : List (List ℕ))
    (old new : List Edge) : Type 0 where
  pub edge : Edge
  pub grown : new ≡ old ++ edge ∷ []
  pub from_is : edge.from ≡ from
  pub rises : low < high
  pub first : HasLabel edge_of low edge.label
  pub same : (k : ℕ) (d : Edge) → low ≤ k → k < high → edge_of k ≡ Some d → d.label ≡ edge.label
  pub after : (k : ℕ) (d : Edge) → high ≤ k → edge_of k ≡ Some d →
      label_cmp edge.label d.label ≡ Less
  pub target : List ℕ
  pub target_at : slice_get sets edge.to ≡ Some target
  pub exactly : (t : ℕ) → IsIn t target ↔ LeadsWithin edge_of low high t
  pub keeps : (i : ℕ) (set : List ℕ) → slice_get old_sets i ≡ Some set → slice_get sets i ≡ Some set
  pub fresh : (i : ℕ) → length old_sets ≤ i → i < length sets → i ≡ edge.to

-- some edge has the label
pub record IsLabelOf (edge_of : ℕ → Option Edge) (label : Label) : Type 0 where
  pub number : ℕ
  pub holds : HasLabel edge_of number label

-- an edge to the number of the set of the states to which the edges with its label lead
pub record IsOut (edge_of : ℕ → Option Edge) (sets : List (List ℕ)) (e : Edge) : Type 0 where
  pub some : IsLabelOf edge_of e.label
  pub target : List ℕ
  pub target_at : slice_get sets e.to ≡ Some target
  pub exactly : (t : ℕ) → IsIn t target ↔ LeadsBy edge_of e.label t

-- an edge with this label among these
pub record HoldsLabel (edges : List Edge) (label : Label) : Type 0 where
  pub edge : Edge
  pub listed : IsIn edge edges
  pub label_is : edge.label ≡ label

-- one of these edges leads to the number
pub record LeadsInto (edges : List Edge) (i : ℕ) : Type 0 where
  pub edge : Edge
  pub listed : IsIn edge edges
  pub to_is : edge.to ≡ i

-- the edges below a number were grouped by label: one edge for each label
pub record AddsOuts (edge_of : ℕ → Option Edge) (from low : ℕ) (old_sets sets : List (List ℕ))
    (old new : List Edge) : Type 0 where
  pub outs : List Edge
  pub grown : new ≡ old ++ outs
  pub from_is : (e : Edge) → IsIn e outs → e.from ≡ from
  pub sound : (e : Edge) → IsIn e outs → IsOut edge_of sets e
  pub all : (k : ℕ) (d : Edge) → k < low → edge_of k ≡ Some d → HoldsLabel outs d.label
  pub ascend : Ascends (λ a b. label_cmp a.label b.label) outs
  pub below : (e : Edge) (k : ℕ) (d : Edge) → IsIn e outs → low ≤ k → edge_of k ≡ Some d →
      label_cmp e.label d.label ≡ Less
  pub keeps : (i : ℕ) (set : List ℕ) → slice_get old_sets i ≡ Some set → slice_get sets i ≡ Some set
  pub entered : (i : ℕ) → length old_sets ≤ i → i < length sets → LeadsInto outs i
