use Rattle.std.proofs.Common.{◌-◌, ◌^◌}
use Rattle.ap_trim.proofs.Reaching.{IsReaching}
use Rattle.ap_trim.proofs.closing.reached.Given as goal

abbrev pub invariant-states : goal.invariant-states
invariant-states l = IsReaching l.fst l.starts l.states l.at

abbrev pub decreases-states : goal.decreases-states
decreases-states l = 2 ^ 64 - l.at
