use Rattle.std.proofs.Common.{◌≤◌, max, slice_get}
use Rattle.ap_fst.specs.Removal.{AddsWhere}
use Rattle.ap_det.specs.Exits.{LeadsWithin}
use Rattle.ap_trim.proofs.reading.add_span.Given as goal

abbrev pub invariant-loop-place : goal.invariant-loop-place
invariant-loop-place l = record {
  bound : l.place ≤ max l.low l.high;
  added : AddsWhere (LeadsWithin (slice_get l.edges) l.low l.place) l.initial.targets.items
      l.targets.items;
}
