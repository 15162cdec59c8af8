use Rattle.std.proofs.Common.{take}
use Rattle.ap_fst.specs.Graphs.{Grows}
use Rattle.ap_fst.proofs.graph.add_states.Given as goal

abbrev pub invariant-loop-state : goal.invariant-loop-state
invariant-loop-state l = Grows l.initial.set (take l.state-index l.states) l.set
