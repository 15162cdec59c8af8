use Rattle.std.proofs.Common.{length}
use Rattle.ap_compound.specs.Places.{IsLeast, Arrives}
use Rattle.ap_compound.proofs.exploring.fewest_to.Given as goal

abbrev pub invariant-loop-at : goal.invariant-loop-at
invariant-loop-at l = IsLeast (Arrives l.places (length l.places)) l.at l.found
