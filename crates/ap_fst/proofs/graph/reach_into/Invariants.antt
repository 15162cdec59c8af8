use Rattle.std.proofs.Common.{◌-◌, ◌^◌}
use Rattle.ap_fst.proofs.Growing.{IsReaching}
use Rattle.ap_fst.proofs.graph.reach_into.Given as goal

abbrev pub invariant-loop-state : goal.invariant-loop-state
invariant-loop-state l = IsReaching l.arcs l.starts l.set l.at

abbrev pub decreases-loop-state : goal.decreases-loop-state
decreases-loop-state l = 2 ^ 64 - l.at
