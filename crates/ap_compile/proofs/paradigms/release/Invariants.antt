use Rattle.ap_compile.specs.LastUses.{AreReleased}
use Rattle.ap_compile.proofs.paradigms.release.Given as goal

abbrev pub invariant-loop-n : goal.invariant-loop-n
invariant-loop-n l = AreReleased l.last l.at l.fn.drafts.items l.drafts.items
