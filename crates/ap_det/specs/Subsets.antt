use Rattle.std.specs.Prelude.{◌≡◌, ◌↔◌, ℕ, ◌<◌, List, [], ◌∷◌, ◌++◌, Some, length, IsTrue, slice_get}
use Rattle.std.specs.Ordering.{nat_cmp, ordering_then}
use Rattle.std.specs.declared.cmp.Ordering.{Ordering}
use Rattle.ap_fst.specs.Lists.{IsIn, Ascends}
use Rattle.ap_fst.specs.Order.{label_cmp}
use Rattle.ap_fst.specs.Sides.{has_side}
use Rattle.ap_fst.specs.Machines.{Machine}
use Rattle.ap_fst.specs.declared.label.Label.{Label}
use Rattle.ap_fst.specs.declared.label.Edge.{Edge}

-- one of these states is final
pub record HoldsFinal (m : Machine) (set : List ℕ) : Type 0 where
  pub state : ℕ
  pub listed : IsIn state set
  pub final : IsIn state m.finals

-- the number goes last where its set holds a final state, and else nothing changes
pub data AddsFinal (m : Machine) (set : List ℕ) (number : ℕ) (old new : List ℕ) : Type 0 where
  added : HoldsFinal m set → new ≡ old ++ number ∷ [] → AddsFinal m set number old new
  same : (HoldsFinal m set → ⊥) → new ≡ old → AddsFinal m set number old new

-- an edge with this label leads from one of these states to the state
pub record LeadsFrom (m : Machine) (set : List ℕ) (label : Label) (t : ℕ) : Type 0 where
  pub edge : Edge
  pub listed : IsIn edge m.edges
  pub from_in : IsIn edge.from set
  pub label_is : edge.label ≡ label
  pub to_is : t ≡ edge.to

-- an edge between the numbers of two sets: the second has the states to which its label leads from
-- the first, and there are some
pub record IsSetEdge (m : Machine) (sets : List (List ℕ)) (e : Edge) : Type 0 where
  pub set : List ℕ
  pub set_at : slice_get sets e.from ≡ Some set
  pub target : List ℕ
  pub target_at : slice_get sets e.to ≡ Some target
  pub exactly : (t : ℕ) → IsIn t target ↔ LeadsFrom m set e.label t
  pub state : ℕ
  pub held : IsIn state target
  pub sided : IsTrue (has_side e.label)

-- an edge leaves the state with this label
pub record Leaves (edges : List Edge) (state : ℕ) (label : Label) : Type 0 where
  pub edge : Edge
  pub listed : IsIn edge edges
  pub from_is : edge.from ≡ state
  pub label_is : edge.label ≡ label

-- an edge from a lower number leads to the number
pub record IsEntered (edges : List Edge) (i : ℕ) : Type 0 where
  pub edge : Edge
  pub listed : IsIn edge edges
  pub to_is : edge.to ≡ i
  pub rises : edge.from < i

-- the set with this number, below the bound, holds a final state
pub record IsFinalSet (m : Machine) (bound : ℕ) (sets : List (List ℕ)) (number : ℕ) : Type 0 where
  pub below : number < bound
  pub set : List ℕ
  pub set_at : slice_get sets number ≡ Some set
  pub holds : HoldsFinal m set

-- the order of edges by the state that they leave and the label alone
abbrev pub start_cmp : Edge → Edge → Ordering
start_cmp a b = ordering_then (nat_cmp a.from b.from) (label_cmp a.label b.label)

-- Sets of states have numbers, the set of the start is the first, each other one is entered from a
-- set before it, and of the first so many all edges are made.
pub record AreSubsets (m : Machine) (bound : ℕ) (sets : List (List ℕ)) (edges : List Edge)
    (finals : List ℕ) : Type 0 where
  pub first : slice_get sets 0 ≡ Some (0 ∷ [])
  pub sound : (e : Edge) → IsIn e edges → IsSetEdge m sets e
  pub below : (e : Edge) → IsIn e edges → e.from < bound
  pub all : (i : ℕ) (set : List ℕ) (d : Edge) → i < bound → slice_get sets i ≡ Some set →
      IsIn d m.edges → IsIn d.from set → Leaves edges i d.label
  pub entered : (i : ℕ) → 0 < i → i < length sets → IsEntered edges i
  pub ascend : Ascends start_cmp edges
  pub final : (i : ℕ) → IsIn i finals ↔ IsFinalSet m bound sets i
  pub finals_ascend : Ascends nat_cmp finals
