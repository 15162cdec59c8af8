use Rattle.std.proofs.Common.{◌≡◌, ◌-◌, take, drop}
use Rattle.ap_symbol.proofs.word.Word.part.Given as goal

abbrev pub invariant-loop-at : goal.invariant-loop-at
invariant-loop-at l = l.made ≡ take (l.at - l.from) (drop l.from l.symbols)
