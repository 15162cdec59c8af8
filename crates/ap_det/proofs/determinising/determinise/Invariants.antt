use Rattle.std.proofs.Common.{◌-◌, ◌^◌}
use Rattle.ap_det.specs.Subsets.{AreSubsets}
use Rattle.ap_det.proofs.determinising.determinise.Given as goal

abbrev pub invariant-sets : goal.invariant-sets
invariant-sets l = AreSubsets l.fst l.number l.sets l.edges l.finals

abbrev pub decreases-sets : goal.decreases-sets
decreases-sets l = 2 ^ 64 - l.number
