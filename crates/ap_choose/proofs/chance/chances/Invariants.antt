use Rattle.ap_choose.proofs.Thinnings.{IsThinning}
use Rattle.ap_choose.proofs.chance.chances.Given as goal

abbrev pub invariant-readings : goal.invariant-readings
invariant-readings l = IsThinning l.numbers.names l.readings l.place l.found
