use Rattle.std.specs.Prelude.{◌≡◌, ◌↔◌, ℕ, ◌+◌, IsTrue, List, [], ◌∷◌, ◌++◌, Option, Some, None, slice_get, length, take}
use Rattle.std.specs.List.Sorted.{IsNonDecreasingBy}
use Rattle.ap_fst.specs.Lists.{IsIn}
use Rattle.ap_fst.specs.Machines.{Machine}
use Rattle.ap_fst.specs.declared.label.Edge.{Edge}
use Rattle.ap_live.specs.Fitting.{Input}
use Rattle.ap_live.specs.Spreads.{Picked, Spread, Closed, arrival, arrival_to}
use Rattle.ap_live.specs.declared.arrivals.Arrival.{Arrival}
use Rattle.ap_live.specs.declared.rows.Row.{Row}

-- these inputs lead from the start to a state
pub data Reach (edges : List Edge) : List Input → ℕ → Type 0 where
  begin : {seen : List Input} {s : ℕ} → seen ≡ [] → s ≡ 0 → Reach edges seen s
  silent : {seen : List Input} {s : ℕ} (f j : ℕ) → Picked edges None f s j → Reach edges seen f →
      Reach edges seen s
  taken : {seen : List Input} {s : ℕ} (before : List Input) (input : Input) (f j : ℕ) →
      Picked edges (Some input) f s j → seen ≡ before ++ input ∷ [] → Reach edges before f →
      Reach edges seen s

-- An edge with an empty left side leads to a state after these inputs.
pub record EntersSilently (edges : List Edge) (seen : List Input) (s j : ℕ) : Type 0 where
  pub from : ℕ
  pub picked : Picked edges None from s j
  pub reached : Reach edges seen from

-- An edge that fits the last of these inputs leads to a state after them.
pub record EntersTaking (edges : List Edge) (seen : List Input) (s j : ℕ) : Type 0 where
  pub before : List Input
  pub input : Input
  pub from : ℕ
  pub whole : seen ≡ before ++ input ∷ []
  pub picked : Picked edges (Some input) from s j
  pub reached : Reach edges before from

-- the row after these inputs
pub record IsRow (edges : List Edge) (seen : List Input) (row : Row) : Type 0 where
  pub sound : (s : ℕ) → IsIn s row.states.items → Reach edges seen s
  pub complete : (s : ℕ) → Reach edges seen s → IsIn s row.states.items
  pub taken_sound : (a : Arrival) → IsIn a row.taken.items → EntersTaking edges seen a.to a.edge
  pub taken_complete : (s j : ℕ) → EntersTaking edges seen s j → IsIn (arrival s j) row.taken.items
  pub silent_sound : (a : Arrival) → IsIn a row.silent.items → EntersSilently edges seen a.to a.edge
  pub silent_complete : (s j : ℕ) → EntersSilently edges seen s j →
      IsIn (arrival s j) row.silent.items

-- a row with no state and no edge
pub record IsVoid (row : Row) : Type 0 where
  pub states : row.states.items ≡ []
  pub taken : row.taken.items ≡ []
  pub silent : row.silent.items ≡ []

-- The row's edges stand in the order of the states that they lead to.
pub record IsOrdered (row : Row) : Type 0 where
  pub taken : IsNonDecreasingBy arrival_to row.taken.items
  pub silent : IsNonDecreasingBy arrival_to row.silent.items

-- a row for each number of inputs so far, from none on
pub record AreRows (edges : List Edge) (seen : List Input) (rows : List Row) : Type 0 where
  pub count : length rows ≡ length seen + 1
  pub each : (k : ℕ) (row : Row) → slice_get rows k ≡ Some row → IsRow edges (take k seen) row

-- the first row: the start, and what edges with an empty left side lead to from it
pub record IsFirst (edges : List Edge) (row : Row) : Type 0 where
  pub taken : row.taken.items ≡ []
  pub closed : Closed edges (0 ∷ []) [] row.states.items row.silent.items

-- a row from the states of the last one
pub record IsNext (edges : List Edge) (pick : Option Input) (last : List ℕ)
    (row : Row) : Type 0 where
  pub base : List ℕ
  pub taken : Spread edges pick last [] [] base row.taken.items
  pub closed : Closed edges base [] row.states.items row.silent.items

-- The row says whether one of its states is final.
abbrev pub Tells : List ℕ → Row → Type 0
Tells finals row = IsTrue row.ends ↔ ((s : ℕ) × (IsIn s row.states.items × IsIn s finals))

-- the rows of a transducer after these inputs, which say whether they end
pub record AreLiveRows (m : Machine) (seen : List Input) (rows : List Row) : Type 0 where
  pub rows_are : AreRows m.edges seen rows
  pub told : (at : ℕ) (row : Row) → slice_get rows at ≡ Some row → Tells m.finals row
