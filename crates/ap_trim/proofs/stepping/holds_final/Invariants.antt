use Rattle.ap_det.proofs.Constructing.{NoneFinal}
use Rattle.ap_trim.proofs.stepping.holds_final.Given as goal

abbrev pub invariant-loop-state : goal.invariant-loop-state
invariant-loop-state l = NoneFinal l.fst l.set l.state-index
