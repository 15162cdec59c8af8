use Rattle.ap_fst.specs.Removal.{AddsWhere}
use Rattle.ap_fst.proofs.Adding.{AtBelow}
use Rattle.ap_det.proofs.Sorting.{PlaceAt}
use Rattle.ap_det.proofs.places.gathered.Given as goal

abbrev pub invariant-loop-state : goal.invariant-loop-state
invariant-loop-state l =
    AddsWhere (AtBelow (PlaceAt l.fst.edges l.set) l.state-index) l.initial.places.items
    l.places.items
