use Rattle.std.proofs.Common.{◌≤◌, List, drop, length, take}
use Rattle.ap_live.specs.Fitting.{Input}
use Rattle.ap_live.specs.Rows.{AreRows}
use Rattle.ap_live.specs.Trails.{Way}
use Rattle.ap_live.proofs.some_ways.is_way.Given as goal

abbrev pub invariant-loop-at : goal.invariant-loop-at
invariant-loop-at l = record {
  within : l.at ≤ length l.places;
  way : (seen : List Input) → AreRows l.fst.edges seen l.rows →
      Way l.fst.edges (take l.row seen) l.state (drop l.at l.places);
}

abbrev pub decreases-loop-at : goal.decreases-loop-at
decreases-loop-at l = l.at
