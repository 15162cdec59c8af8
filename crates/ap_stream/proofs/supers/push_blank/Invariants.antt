use Rattle.std.proofs.Common.{◌≡◌, ◌-◌, ◌≤◌, ◌++◌, length, drop}
use Rattle.std.specs.List.{flat_map}
use Rattle.ap_stream.specs.Supers.{blank_supers}
use Rattle.ap_stream.proofs.supers.push_blank.Given as goal

abbrev pub invariant-loop-at : goal.invariant-loop-at
invariant-loop-at l = record {
  within : l.at ≤ length l.bytes;
  on : l.initial.into ++ flat_map (λ x. x) (blank_supers 0 l.bytes) ≡ l.into
      ++ flat_map (λ x. x) (blank_supers 0 (drop l.at l.bytes));
}

abbrev pub decreases-loop-at : goal.decreases-loop-at
decreases-loop-at l = length l.bytes - l.at
