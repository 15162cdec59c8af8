use Rattle.ap_fst.proofs.RowLaws.{AreKeptBelow}
use Rattle.ap_fst.proofs.rows.kept_states.Given as goal

abbrev pub invariant-loop-at : goal.invariant-loop-at
invariant-loop-at l = AreKeptBelow l.moves l.leads l.fn.start l.at l.kept
