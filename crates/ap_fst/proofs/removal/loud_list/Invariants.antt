use Rattle.ap_fst.specs.Removal.{AddsWhere, IsLoudArc}
use Rattle.ap_fst.proofs.Adding.{AtBelow}
use Rattle.ap_fst.proofs.removal.loud_list.Given as goal

abbrev pub invariant-loop-at : goal.invariant-loop-at
invariant-loop-at l = AddsWhere (AtBelow (IsLoudArc l.moves) l.at) l.initial.arcs.items l.arcs.items
