use Rattle.ap_rules.proofs.Stretches.{Marked}
use Rattle.ap_rules.proofs.attribute.stretches_of.Given as goal

abbrev pub invariant-loop-at : goal.invariant-loop-at
invariant-loop-at l = Marked l.items l.at l.stretches
