use Rattle.ap_fst.proofs.Removals.{AreNumbers}
use Rattle.ap_fst.proofs.removal.final_numbers.Given as goal

abbrev pub invariant-loop-number : goal.invariant-loop-number
invariant-loop-number l = AreNumbers l.kept l.back l.number l.finals
