use Rattle.std.proofs.Common.{◌<◌}
use Rattle.ap_compound.specs.Places.{IsLeast, Completes}
use Rattle.ap_compound.proofs.exploring.fewest_parts.Given as goal

abbrev pub invariant-loop-at : goal.invariant-loop-at
invariant-loop-at l = record {
  behind : 0 < l.at;
  least : IsLeast (Completes l.places) l.at l.found;
}
