use Rattle.std.proofs.Common.{◌≡◌, ◌++◌, take}
use Rattle.std.specs.List.{flat_map}
use Rattle.ap_compound.specs.Places.{joins}
use Rattle.ap_compound.proofs.listing.push_joined.Given as goal

abbrev pub invariant-loop-front : goal.invariant-loop-front
invariant-loop-front l = l.into.items ≡ l.fn.into.items
    ++ flat_map (joins l.backs) (take l.front-index l.fronts)
