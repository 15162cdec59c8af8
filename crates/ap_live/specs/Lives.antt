-- What a live set is of.
use Rattle.std.specs.Prelude.{◌≡◌, ◌↔◌, ◌≤◌, Bool, IsTrue, List, [], Option, Some, None, length, take}
use Rattle.ap_fst.specs.Machines.{Machine}
use Rattle.ap_live.specs.Fitting.{Input}
use Rattle.ap_live.specs.Outlines.{IsOutline}
use Rattle.ap_live.specs.Rows.{AreLiveRows}
use Rattle.ap_live.specs.Trails.{IsTrail, Trails}
use Rattle.ap_live.specs.declared.outline.Outline.{Outline}
use Rattle.ap_live.specs.declared.ways.Ways.{Ways}
use Rattle.ap_live.specs.declared.rows.Row.{Row}

-- The trail is that of the first of these inputs, if there is one.
abbrev pub IsBefore : Machine → List Input → Option Trails → Type 0
IsBefore m seen None = Unit {0}
IsBefore m seen (Some trail) = (length trail.inputs ≤ length seen)
    × IsTrail m.edges (take (length trail.inputs) seen) trail

-- what these inputs reach in a transducer: by rows of states, where there are some, and else by a
-- node for each way
abbrev pub IsHeldBy : Machine → List Input → Option Trails → Option (List Row) → Type 0
IsHeldBy m seen None None = ⊥
IsHeldBy m seen (Some trail) None = IsTrail m.edges seen trail
IsHeldBy m seen trail (Some rows) = AreLiveRows m seen rows × IsBefore m seen trail

abbrev pub IsHeld : Machine → List Input → Ways → Type 0
IsHeld m seen ways = IsHeldBy m seen ways.trail ways.rows

-- what is seen of a live set: what is reached, the transducer's outline, and whether it has no
-- final state
pub record Lives : Type 0 where
  pub ways : Ways
  pub outline : Outline
  pub is_void : Bool

-- the live set of a transducer after these inputs
pub record IsLive (m : Machine) (seen : List Input) (l : Lives) : Type 0 where
  pub held : IsHeld m seen l.ways
  pub outline_is : IsOutline m.edges l.outline
  pub void_is : IsTrue l.is_void ↔ (m.finals ≡ [])
