use Rattle.std.proofs.Common.{◌-◌, length}
use Rattle.ap_choose.proofs.PairTexts.{IsSoFar}
use Rattle.ap_choose.proofs.reading.read_pairs.Given as goal

abbrev pub invariant-lines : goal.invariant-lines
invariant-lines l = IsSoFar l.text l.at l.line l.found

abbrev pub decreases-lines : goal.decreases-lines
decreases-lines l = length l.text - l.at
