use Rattle.std.specs.Prelude.{◌≡◌, ℕ, ◌<◌, ◌≤◌, Bool, not, true, List, [], ◌++◌, Option, Some, None, length, suc, zero, slice_get}
use Rattle.std.specs.Option.{is_some}
use Rattle.ap_fst.specs.Machines.{Machine}
use Rattle.ap_fst.specs.Walks.{AcceptsLabels}
use Rattle.ap_fst.specs.Sides.{left_word}
use Rattle.ap_fst.specs.declared.label.Label.{Label}
use Rattle.ap_fst.specs.declared.label.Edge.{Edge}

-- the edge reads nothing: its left side is empty
abbrev pub is_silent : Edge → Bool
is_silent e = not (is_some e.label.left)

-- a label string with an empty left word is accepted
pub record HasEmptySide (m : Machine) : Type 0 where
  pub labels : List Label
  pub accepted : AcceptsLabels m labels
  pub empty : left_word labels ≡ []

-- So many edges with an empty left side lead from one state to another.
pub data SilentWalk (edges : List Edge) : ℕ → ℕ → ℕ → Type 0 where
  still : {s t : ℕ} → s ≡ t → SilentWalk edges s zero t
  step : {s t n : ℕ} (u j : ℕ) (e : Edge) → SilentWalk edges s n u → slice_get edges j ≡ Some e →
      e.label.left ≡ None → u ≡ e.from → t ≡ e.to → SilentWalk edges s (suc n) t

-- the edge at this place has an empty left side and lies on a cycle of such edges
pub record IsOnEmptyCycle (edges : List Edge) (j : ℕ) : Type 0 where
  pub edge : Edge
  pub at : slice_get edges j ≡ Some edge
  pub silent : edge.label.left ≡ None
  pub length : ℕ
  pub back : SilentWalk edges edge.to length edge.from

-- no edge lies on a cycle of edges with an empty left side
abbrev pub HasNoEmptyCycle : Machine → Type 0
HasNoEmptyCycle m = (j : ℕ) → IsOnEmptyCycle m.edges j → ⊥

-- the first of the edges that lie on a cycle of edges with an empty left side
pub record IsFirstOnEmptyCycle (edges : List Edge) (j : ℕ) : Type 0 where
  pub on : IsOnEmptyCycle edges j
  pub first : (i : ℕ) → i < j → IsOnEmptyCycle edges i → ⊥

-- the states that an edge leaves and enters have these numbers
pub record HasNumbers (number : ℕ → Option ℕ) (e : Edge) (from to : ℕ) : Type 0 where
  pub from_number : number e.from ≡ Some from
  pub to_number : number e.to ≡ Some to

-- an edge between two states with numbers, to one that is no lower
pub record KeepsUp (number : ℕ → Option ℕ) (e : Edge) : Type 0 where
  pub from : ℕ
  pub to : ℕ
  pub numbers : HasNumbers number e from to
  pub keeps : from ≤ to

-- an edge between two states with numbers, from the lower to the higher
pub record Rises (number : ℕ → Option ℕ) (e : Edge) : Type 0 where
  pub from : ℕ
  pub to : ℕ
  pub numbers : HasNumbers number e from to
  pub rises : from < to

-- each edge before this place whose left side is empty leads to a higher number
abbrev pub RiseBefore : (ℕ → Option ℕ) → List Edge → ℕ → Type 0
RiseBefore number edges j = (i : ℕ) (e : Edge) → i < j → slice_get edges i ≡ Some e →
    is_silent e ≡ true → Rises number e

-- A run of labels with empty left sides within a label string.
pub record IsSilentRun (labels middle : List Label) : Type 0 where
  pub front : List Label
  pub back : List Label
  pub whole : labels ≡ front ++ (middle ++ back)
  pub silent : left_word middle ≡ []

-- Some number bounds how many labels with an empty left side follow one another in the label
-- strings.
pub record HasBoundedRuns (m : Machine) : Type 0 where
  pub bound : ℕ
  pub short : (labels middle : List Label) → AcceptsLabels m labels → IsSilentRun labels middle →
      length middle ≤ bound
