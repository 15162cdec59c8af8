use Rattle.std.specs.Prelude.{◌≡◌, ◌↔◌, ℕ, ◌<◌, max, List, [], ◌∷◌, Option, Some, None, length}
use Rattle.std.specs.List.{flat_map}
use Rattle.std.specs.Option.{option_to_list}
use Rattle.std.specs.Ordering.{nat_cmp}
use Rattle.ap_fst.specs.Lists.{IsIn, Ascends}
use Rattle.ap_fst.specs.Graphs.{place_of}
use Rattle.ap_fst.specs.Machines.{Machine}
use Rattle.ap_fst.specs.Walks.{Walk, AcceptsLabels}
use Rattle.ap_fst.specs.declared.label.Label.{Label}
use Rattle.ap_fst.specs.declared.label.Edge.{Edge}

-- some labels lead from the start to the state
pub record IsReached (m : Machine) (s : ℕ) : Type 0 where
  pub labels : List Label
  pub walk : Walk m.edges 0 labels s

-- some labels lead from the state to a final one
pub record IsFinishing (m : Machine) (s : ℕ) : Type 0 where
  pub labels : List Label
  pub last : ℕ
  pub final : IsIn last m.finals
  pub walk : Walk m.edges s labels last

-- Each state other than the start is reached from it and reaches a final one, and where nothing is
-- accepted there is one state and no edge.
pub record IsTrimmed (m : Machine) : Type 0 where
  pub reached : (s : ℕ) → 0 < s → s < m.states → IsReached m s
  pub finishing : (s : ℕ) → 0 < s → s < m.states → IsFinishing m s
  pub nothing : ((labels : List Label) → AcceptsLabels m labels → ⊥) →
      (m.states ≡ 1) × (m.edges ≡ [])

abbrev pub IsUseful : Machine → ℕ → Type 0
IsUseful m s = IsReached m s × IsFinishing m s

abbrev pub edge_between : Option ℕ → Option ℕ → Label → List Edge
edge_between None to label = []
edge_between (Some i) None label = []
edge_between (Some i) (Some j) label = record { from = i; label = label; to = j } ∷ []

-- an edge between states that stay, under their new numbers
abbrev pub kept_edge : List ℕ → Edge → List Edge
kept_edge states e = edge_between (place_of states e.from) (place_of states e.to) e.label

abbrev pub kept_state : List ℕ → ℕ → List ℕ
kept_state states s = option_to_list (place_of states s)

-- what is left where these states stay, each numbered by its place
abbrev pub trimmed_to : List ℕ → Machine → Machine
trimmed_to states m = record {
  states = max (length states) 1;
  edges =
      flat_map (kept_edge states) m.edges;
  finals = flat_map (kept_state states) m.finals;
}

-- The states that are reached and reach a final one stay, in their old order.
pub record IsTrimOf (old new : Machine) : Type 0 where
  pub states : List ℕ
  pub ascend : Ascends nat_cmp states
  pub exactly : (s : ℕ) → IsIn s states ↔ IsUseful old s
  pub is : new ≡ trimmed_to states old
