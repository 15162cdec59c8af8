use Rattle.std.proofs.Common.{take}
use Rattle.ap_choose.specs.Numbering.{IsNumbered}
use Rattle.ap_choose.proofs.numbers.Numbers.of.Given as goal

abbrev pub invariant-pairs : goal.invariant-pairs
invariant-pairs l = IsNumbered (take l.pair-index l.forbidden) l.numbers
