use Rattle.std.proofs.Common.{◌≡◌, take}
use Rattle.ap_compound.specs.Tags.{bare}
use Rattle.ap_compound.proofs.tags.bare.Given as goal

abbrev pub invariant-loop-symbol : goal.invariant-loop-symbol
invariant-loop-symbol l = l.made ≡ bare (take l.symbol-index l.symbol-items)
