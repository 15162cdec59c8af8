use Rattle.std.proofs.Common.{List, subst, sym, ℕ}
use Rattle.std.specs.List.{list_any}
use Rattle.std.specs.Prelude.{IsTrue, ◌↔◌}
use Rattle.std.proofs.lemmas.Result.{IfOk-weaker}
use Rattle.ap_dix.specs.Language.{spans}
use Rattle.ap_dix.specs.declared.expr.Range.{Range}
use Rattle.ap_compile.proofs.Spanning.{class_same}
use Rattle.ap_compile.proofs.expressions.class_draft.Goals as goal

pub returns : goal.returns
returns c = IfOk-weaker c.ranges_draft.result _ _
    (λ made h. class_same c.as_slice.result.now c.args.ranges.now made
    (subst (λ (z : List Range). (k : ℕ) → IsTrue (list_any (spans k) z)
    ↔ IsTrue (list_any (spans k) c.args.ranges.now)) (sym c.as_slice.ensures.value)
    c.in_ok-sorted.ensures.same) h) c.ranges_draft.ensures
