use Rattle.std.proofs.Common.{◌≡◌, ◌≤◌, drop, length, reverse}
use Rattle.ap_choose.specs.Choosing.{viable}
use Rattle.ap_choose.specs.Chances.{bars_chances}
use Rattle.ap_choose.proofs.choosing.viable.Given as goal

abbrev pub invariant-units : goal.invariant-units
invariant-units l = record {
  within : l.left ≤ length l.units;
  kept : l.kept.items ≡ reverse (viable (bars_chances l.numbers) (drop l.left l.units));
}

abbrev pub decreases-units : goal.decreases-units
decreases-units l = l.left
