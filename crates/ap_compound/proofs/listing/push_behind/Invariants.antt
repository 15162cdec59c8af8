use Rattle.std.proofs.Common.{◌≡◌, ◌++◌, take}
use Rattle.ap_compound.specs.Places.{joins}
use Rattle.ap_compound.proofs.listing.push_behind.Given as goal

abbrev pub invariant-loop-back : goal.invariant-loop-back
invariant-loop-back l = l.into.items ≡ l.fn.into.items ++ joins (take l.back-index l.backs) l.front
