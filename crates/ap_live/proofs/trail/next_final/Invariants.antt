use Rattle.ap_live.specs.Trails.{NoneFinal}
use Rattle.ap_live.proofs.trail.next_final.Given as goal

abbrev pub invariant-loop-at : goal.invariant-loop-at
invariant-loop-at l = NoneFinal l.fst.finals l.nodes l.low l.at
