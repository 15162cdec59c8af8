use Rattle.ap_fst.specs.Removal.{AddsWhere}
use Rattle.ap_fst.proofs.Adding.{AtBelow}
use Rattle.ap_trim.proofs.Adding.{FitsAt}
use Rattle.ap_trim.proofs.reading.targets_by.Given as goal

abbrev pub invariant-loop-state : goal.invariant-loop-state
invariant-loop-state l = AddsWhere (AtBelow (FitsAt l.fst l.set l.symbol) l.state-index)
    l.initial.targets.items l.targets.items
