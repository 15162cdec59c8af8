use Rattle.std.proofs.Common.{◌≡◌, ◌++◌, drop}
use Rattle.ap_exec.proofs.values.append.Given as goal

abbrev pub invariant-loop-symbol : goal.invariant-loop-symbol
invariant-loop-symbol l = l.into ++ drop l.symbol-index l.symbols ≡ l.initial.into ++ l.symbols
