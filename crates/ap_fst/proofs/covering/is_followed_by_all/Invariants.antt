use Rattle.std.proofs.Common.{List}
use Rattle.ap_fst.specs.Covering.{AreArcsOf}
use Rattle.ap_fst.specs.declared.draft.Move.{Move}
use Rattle.ap_fst.proofs.Coverings.{AreFollowed}
use Rattle.ap_fst.proofs.covering.is_followed_by_all.Given as goal

abbrev pub invariant-loop-arc : goal.invariant-loop-arc
invariant-loop-arc l = (moves : List Move) → AreArcsOf moves l.arcs →
    AreFollowed moves l.fn.from l.all l.arc-index
