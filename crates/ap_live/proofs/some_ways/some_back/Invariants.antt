use Rattle.ap_live.specs.SomeWays.{AreSomeOutputs}
use Rattle.ap_live.proofs.some_ways.some_back.Given as goal

abbrev pub invariant-loop-state : goal.invariant-loop-state
invariant-loop-state l = AreSomeOutputs l.fst l.outline l.rows l.words.items
