use Rattle.ap_fst.specs.Removal.{AddsWhere}
use Rattle.ap_fst.proofs.Adding.{AtBelow}
use Rattle.ap_fst.proofs.Removals.{MovedAt}
use Rattle.ap_fst.proofs.removal.add_moves_of.Given as goal

abbrev pub invariant-loop-place : goal.invariant-loop-place
invariant-loop-place l =
    AddsWhere (AtBelow (MovedAt l.moves l.leads l.kept l.fn.number l.row) l.place-index)
    l.initial.edges.items l.edges.items
