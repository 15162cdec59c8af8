use Rattle.std.proofs.Common.{length}
use Rattle.ap_command.specs.Listing.{Gathers}
use Rattle.ap_command.proofs.listing.gather.Given as goal

abbrev pub invariant-loop-expansion : goal.invariant-loop-expansion
invariant-loop-expansion l = Gathers l.fn.expansion l.expansion l.into

abbrev pub decreases-loop-expansion : goal.decreases-loop-expansion
decreases-loop-expansion l = length l.expansion
