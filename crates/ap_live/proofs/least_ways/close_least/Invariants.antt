use Rattle.ap_live.proofs.LeastLaws.{AreRounds}
use Rattle.ap_live.proofs.least_ways.close_least.Given as goal

abbrev pub invariant-loop : goal.invariant-loop
invariant-loop l = AreRounds l.fst l.links l.case l.fn.items.items l.kept.items
