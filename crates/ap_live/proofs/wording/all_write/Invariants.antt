use Rattle.std.proofs.Common.{take, IsTrue}
use Rattle.ap_fst.specs.Lists.{IsIn}
use Rattle.ap_fst.specs.declared.label.Edge.{Edge}
use Rattle.ap_live.specs.Outputs.{is_word_side, is_proper_side}
use Rattle.ap_live.proofs.wording.all_write.Given as goal

abbrev pub invariant-loop-edge : goal.invariant-loop-edge
invariant-loop-edge l = (e : Edge) → IsIn e (take l.edge-index l.edges) →
    IsTrue (is_word_side e.label.right) × IsTrue (is_proper_side e.label.right)
