use Rattle.std.proofs.Common.{◌≤◌, max}
use Rattle.ap_det.proofs.Sorting.{AreAdded}
use Rattle.ap_det.proofs.places.add_places.Given as goal

abbrev pub invariant-loop-place : goal.invariant-loop-place
invariant-loop-place l = record {
  bound : l.place ≤ max l.low l.high;
  added : AreAdded l.low l.place l.initial.places.items l.places.items;
}
