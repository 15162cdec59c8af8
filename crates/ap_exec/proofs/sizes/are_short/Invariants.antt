use Rattle.std.proofs.Common.{◌≡◌, drop, length, nat_le}
use Rattle.ap_symbol.specs.Rendering.{rendering}
use Rattle.ap_stream.specs.declared.TheConstants.{UNIT_MAX}
use Rattle.ap_exec.proofs.sizes.are_short.Given as goal

abbrev pub invariant-loop-symbol : goal.invariant-loop-symbol
invariant-loop-symbol l = nat_le (length (rendering (drop l.symbol-index l.symbols))) l.left
    ≡ nat_le (length (rendering l.symbols)) UNIT_MAX
