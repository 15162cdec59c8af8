use Rattle.std.proofs.Common.{◌≡◌, map, take}
use Rattle.ap_symbol.specs.Recasing.{carry_lem}
use Rattle.ap_compound.proofs.reading.carried_all.Given as goal

abbrev pub invariant-loop-word : goal.invariant-loop-word
invariant-loop-word l = l.made.items ≡ map (carry_lem l.case) (take l.word-index l.words)
