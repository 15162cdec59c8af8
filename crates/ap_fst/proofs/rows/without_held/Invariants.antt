use Rattle.ap_fst.proofs.RowLaws.{ArePruned}
use Rattle.ap_fst.proofs.rows.without_held.Given as goal

abbrev pub invariant-loop-at : goal.invariant-loop-at
invariant-loop-at l = ArePruned l.moves l.arcs.finish l.places l.at l.row.items
