use Rattle.ap_live.specs.SomeWays.{AreSomeOutputs}
use Rattle.ap_live.proofs.some_ways.push_back_from.Given as goal

abbrev pub invariant-loop : goal.invariant-loop
invariant-loop l = AreSomeOutputs l.fst l.outline l.rows l.words.items
