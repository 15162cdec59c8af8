use Rattle.std.proofs.Common.{ℕ}
use Rattle.ap_fst.specs.Machines.{IsSpan}
use Rattle.ap_live.specs.Fitting.{pick_of}
use Rattle.ap_live.specs.Spreads.{SpreadOne, PlaceBelow}
use Rattle.ap_live.proofs.rows.spread_few.Given as goal

abbrev pub invariant-loop-place : goal.invariant-loop-place
invariant-loop-place l = (from : ℕ) → IsSpan l.fst.edges from l.first l.fn.last →
    SpreadOne l.fst.edges (pick_of l.fn.pick) from (PlaceBelow l.place) l.initial.states.items
    l.initial.links.items l.states.items l.links.items
