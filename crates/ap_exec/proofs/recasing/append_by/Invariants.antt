use Rattle.std.proofs.Common.{◌≡◌, ◌++◌, drop}
use Rattle.ap_exec.specs.Recased.{recased_by}
use Rattle.ap_exec.proofs.recasing.append_by.Given as goal

abbrev pub invariant-loop-symbol : goal.invariant-loop-symbol
invariant-loop-symbol l = l.into ++ recased_by l.up l.rest (drop l.symbol-index l.symbols)
    ≡ l.initial.into ++ recased_by l.fn.first l.rest l.symbols
