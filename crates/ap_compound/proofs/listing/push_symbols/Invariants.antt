use Rattle.std.proofs.Common.{◌≡◌, ◌++◌, take}
use Rattle.ap_compound.proofs.listing.push_symbols.Given as goal

abbrev pub invariant-loop-symbol : goal.invariant-loop-symbol
invariant-loop-symbol l = l.into ≡ l.fn.into ++ take l.symbol-index l.symbol-items
