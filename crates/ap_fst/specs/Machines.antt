use Rattle.std.specs.Prelude.{◌≡◌, ℕ, ◌<◌, ◌≤◌, ◌==◌, List, Option, Some, slice_get, IsTrue, length}
use Rattle.std.specs.List.{filter}
use Rattle.std.specs.Ordering.{nat_cmp}
use Rattle.ap_fst.specs.Lists.{IsIn, Ascends}
use Rattle.ap_fst.specs.Order.{edge_cmp}
use Rattle.ap_fst.specs.Sides.{has_side}
use Rattle.ap_symbol.specs.declared.symbol.Symbol.{Symbol}
use Rattle.ap_fst.specs.declared.label.Edge.{Edge}

-- what is seen of a transducer; state 0 is the start
pub record Machine : Type 0 where
  pub states : ℕ
  pub edges : List Edge
  pub finals : List ℕ

-- an edge between two of so many states, with a symbol on one side at least
pub record IsEdgeWithin (states : ℕ) (e : Edge) : Type 0 where
  pub from_in : e.from < states
  pub to_in : e.to < states
  pub sided : IsTrue (has_side e.label)

-- there is a start, edges and finals are in strictly ascending order, and each state named is one
pub record IsMachine (m : Machine) : Type 0 where
  pub some : 0 < m.states
  pub edges_ascend : Ascends edge_cmp m.edges
  pub finals_ascend : Ascends nat_cmp m.finals
  pub each : (e : Edge) → IsIn e m.edges → IsEdgeWithin m.states e
  pub finals_in : (s : ℕ) → IsIn s m.finals → s < m.states

abbrev pub edge_from : Edge → ℕ
edge_from e = e.from

-- the edges that leave a state, in their order
abbrev pub edges_of : Machine → ℕ → List Edge
edges_of m state = filter (λ e. edge_from e == state) m.edges

-- the edges of a state stand at the places from low up to high
pub record IsSpan (edges : List Edge) (state low high : ℕ) : Type 0 where
  pub end : high ≤ length edges
  pub inside : (j : ℕ) (e : Edge) → slice_get edges j ≡ Some e → low ≤ j → j < high → e.from ≡ state
  pub outside : (j : ℕ) (e : Edge) → slice_get edges j ≡ Some e → e.from ≡ state →
      (low ≤ j) × (j < high)

-- the edges of a state with this left side stand at the places from low up to high
pub record IsSpanBy (edges : List Edge) (state : ℕ) (left : Option Symbol)
    (low high : ℕ) : Type 0 where
  pub rises : low ≤ high
  pub end : high ≤ length edges
  pub inside : (j : ℕ) (e : Edge) → slice_get edges j ≡ Some e → low ≤ j → j < high →
      (e.from ≡ state) × (e.label.left ≡ left)
  pub outside : (j : ℕ) (e : Edge) → slice_get edges j ≡ Some e → e.from ≡ state →
      e.label.left ≡ left → (low ≤ j) × (j < high)
