use Rattle.std.proofs.Common.{◌≡◌, ◌++◌, drop}
use Rattle.ap_symbol.specs.Changes.{changed_lem}
use Rattle.ap_symbol.proofs.recasing.changed.Given as goal

abbrev pub invariant-loop-symbol : goal.invariant-loop-symbol
invariant-loop-symbol l = l.made ++ changed_lem l.change l.rest (drop l.symbol-index l.symbol-items)
    ≡ changed_lem l.fn.first l.rest l.symbol-items
