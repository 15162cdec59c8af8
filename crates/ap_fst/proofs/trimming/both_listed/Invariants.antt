use Rattle.ap_fst.proofs.Commons.{AreCommon}
use Rattle.ap_fst.proofs.trimming.both_listed.Given as goal

abbrev pub invariant-loop-at : goal.invariant-loop-at
invariant-loop-at l = AreCommon l.a l.b l.at l.both.items
