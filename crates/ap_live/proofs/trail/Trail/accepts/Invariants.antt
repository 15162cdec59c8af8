use Rattle.ap_live.specs.Trails.{NoneFinal}
use Rattle.ap_live.proofs.trail.Trail.accepts.Given as goal

abbrev pub invariant-loop-at : goal.invariant-loop-at
invariant-loop-at l = NoneFinal l.fst.finals l.self.nodes l.low l.at
