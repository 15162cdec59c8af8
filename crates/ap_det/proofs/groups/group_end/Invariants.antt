use Rattle.std.proofs.Common.{◌≡◌, ◌≤◌, ◌<◌, ◌-◌, ℕ, Some, length}
use Rattle.ap_fst.specs.declared.label.Edge.{Edge}
use Rattle.ap_det.specs.Exits.{edge_at}
use Rattle.ap_det.proofs.groups.group_end.Given as goal

abbrev pub invariant-group : goal.invariant-group
invariant-group l = record {
  reaches : l.low ≤ l.high;
  bound : l.high ≤ length l.places;
  same : (k : ℕ) (d : Edge) → l.low ≤ k → k < l.high → edge_at l.edges l.places k ≡ Some d →
      d.label ≡ l.label;
}

abbrev pub decreases-group : goal.decreases-group
decreases-group l = length l.places - l.high
