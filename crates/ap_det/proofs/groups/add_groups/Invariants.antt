use Rattle.std.proofs.Common.{◌≤◌, ◌-◌, length}
use Rattle.ap_det.specs.Exits.{edge_at, AddsOuts}
use Rattle.ap_det.proofs.groups.add_groups.Given as goal

abbrev pub invariant-groups : goal.invariant-groups
invariant-groups l = record {
  bound : l.low ≤ length l.places;
  outs : AddsOuts (edge_at l.edges l.places) l.from l.low l.initial.sets l.sets
      l.initial.made l.made;
}

abbrev pub decreases-groups : goal.decreases-groups
decreases-groups l = length l.places - l.low
