use Rattle.std.proofs.Common.{◌≤◌, length, drop}
use Rattle.ap_compound.specs.Places.{AreListed}
use Rattle.ap_compound.proofs.listing.all_listed.Given as goal

abbrev pub invariant-loop-at : goal.invariant-loop-at
invariant-loop-at l = record {
  within : l.at ≤ length l.places;
  lists : AreListed l.total l.at (drop l.at l.places) l.lists.items;
}

abbrev pub decreases-loop-at : goal.decreases-loop-at
decreases-loop-at l = l.at
