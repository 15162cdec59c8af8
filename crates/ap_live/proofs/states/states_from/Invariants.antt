use Rattle.ap_live.specs.Reached.{AreStatesOf}
use Rattle.ap_live.proofs.states.states_from.Given as goal

abbrev pub invariant-loop-at : goal.invariant-loop-at
invariant-loop-at l = AreStatesOf l.nodes l.low l.at l.states.items
