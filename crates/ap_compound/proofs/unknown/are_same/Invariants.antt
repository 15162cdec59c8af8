use Rattle.std.proofs.Common.{◌≡◌, drop, true}
use Rattle.ap_symbol.specs.Fitting.{lists_fit}
use Rattle.ap_compound.proofs.unknown.are_same.Given as goal

abbrev pub invariant-loop-at : goal.invariant-loop-at
invariant-loop-at l = lists_fit true l.a l.b ≡ lists_fit true (drop l.at l.a) (drop l.at l.b)
