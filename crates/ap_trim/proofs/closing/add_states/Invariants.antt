use Rattle.std.proofs.Common.{take}
use Rattle.ap_fst.specs.Graphs.{Grows}
use Rattle.ap_trim.proofs.closing.add_states.Given as goal

abbrev pub invariant-loop-state : goal.invariant-loop-state
invariant-loop-state l = Grows l.initial.states (take l.state-index l.more) l.states
