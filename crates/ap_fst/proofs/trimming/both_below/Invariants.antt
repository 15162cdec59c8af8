use Rattle.ap_fst.specs.Graphs.{AreBelow}
use Rattle.ap_fst.proofs.trimming.both_below.Given as goal

abbrev pub invariant-loop-state : goal.invariant-loop-state
invariant-loop-state l = AreBelow l.a l.b l.state l.both.items
