use Rattle.std.proofs.Common.{◌≡◌, take}
use Rattle.ap_stream.proofs.unit.copy_into.Given as goal

abbrev pub invariant-loop-symbol : goal.invariant-loop-symbol
invariant-loop-symbol l = l.into ≡ take l.symbol-index l.symbols
