-- Of the inside: no public contract stands on this file.
use Rattle.std.specs.Prelude.{◌≡◌, ℕ, ◌<◌, List, [], Some, length, All, slice_index, slice_get}
use Rattle.ap_fst.specs.Lists.{IsIn}
use Rattle.ap_min.specs.declared.rows.Arc.{Arc}
use Rattle.ap_min.specs.declared.rows.Row.{Row}
use Rattle.ap_min.specs.Numbering.{AreApart}
use Rattle.ap_min.specs.Rows.{arcs_at, key_at}

-- The states from which no cycle is reached can be grouped from the ends inwards: a state is settled
-- once all that its arcs lead to are. Group 0 holds those that are not settled.

-- an arc leads to a state that is not settled
pub record IsOpen (groups : List ℕ) (arcs : List Arc) : Type 0 where
  pub arc : Arc
  pub listed : IsIn arc arcs
  pub is : slice_index groups arc.to ≡ 0

-- each arc leads to a settled state
abbrev pub LeadHome : List ℕ → List Arc → Type 0
LeadHome groups arcs = All (λ arc. 0 < slice_index groups arc.to) arcs

-- each arc leads to a settled state of a lower group
abbrev pub LeadBelow : List ℕ → ℕ → List Arc → Type 0
LeadBelow groups g arcs = All (λ arc. (0 < slice_index groups arc.to)
    × (slice_index groups arc.to < g)) arcs

-- A group of settled states is the number of their row of groups, and their arcs lead to lower
-- groups.
pub record AreSettled (rows : List Row) (keys : List (List ℕ)) (groups : List ℕ) : Type 0 where
  pub long : length groups ≡ length rows
  pub apart : AreApart keys
  pub rest : slice_get keys 0 ≡ Some []
  pub held : (s : ℕ) → s < length rows → 0 < slice_index groups s →
      slice_get keys (slice_index groups s) ≡ Some (key_at groups rows s)
  pub falls : (s : ℕ) → s < length rows → 0 < slice_index groups s →
      LeadBelow groups (slice_index groups s) (arcs_at rows s)
  pub owned : (g : ℕ) → 0 < g → g < length keys → (s : ℕ) × (s < length rows)
      × (slice_index groups s ≡ g)

-- these are the groups, by some numbers of rows of groups
pub record IsSettled (rows : List Row) (groups : List ℕ) : Type 0 where
  pub keys : List (List ℕ)
  pub are : AreSettled rows keys groups

-- no more can be settled: each state that isn't has an arc to one that isn't
abbrev pub IsFull : List Row → List ℕ → Type 0
IsFull rows groups = (s : ℕ) → s < length rows → slice_index groups s ≡ 0 →
    IsOpen groups (arcs_at rows s)
