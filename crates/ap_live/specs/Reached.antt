-- The states that inputs lead to, as a list.
use Rattle.std.specs.Prelude.{◌≡◌, ◌↔◌, ◌⊎◌, ℕ, ◌<◌, ◌≤◌, List, [], Some, slice_get}
use Rattle.ap_fst.specs.Lists.{IsIn}
use Rattle.ap_fst.specs.Machines.{Machine}
use Rattle.ap_fst.specs.declared.label.Edge.{Edge}
use Rattle.ap_live.specs.Fitting.{Input}
use Rattle.ap_live.specs.Rows.{Reach}
use Rattle.ap_live.specs.declared.nodes.Node.{Node}

-- These are the states that the inputs lead to.
abbrev pub AreStates : List Edge → List Input → List ℕ → Type 0
AreStates edges seen states = (s : ℕ) → IsIn s states ↔ Reach edges seen s

-- The same of a transducer; of one without a final state any will do.
abbrev pub AreReached : Machine → List Input → List ℕ → Type 0
AreReached m seen states = (m.finals ≡ []) ⊎ AreStates m.edges seen states

-- Between these places, a node is at the state.
pub record HasState (nodes : List Node) (low high state : ℕ) : Type 0 where
  pub at : ℕ
  pub from : low ≤ at
  pub below : at < high
  pub x : Node
  pub there : slice_get nodes at ≡ Some x
  pub state_is : x.state ≡ state

-- These are the states of the nodes between these places.
pub record AreStatesOf (nodes : List Node) (low high : ℕ) (states : List ℕ) : Type 0 where
  pub sound : (s : ℕ) → IsIn s states → HasState nodes low high s
  pub complete : (s : ℕ) → HasState nodes low high s → IsIn s states
