use Rattle.ap_compile.proofs.Deriving.{parts_none, parts_more}
use Rattle.ap_compile.proofs.drafts.parts_draft.Goals as goal

pub loop-part-init : goal.loop-part-init
loop-part-init c = λ d are. parts_none d c.args.direction c.in_ok-made.made c.in_ok-made.ensures

pub loop-part-preserved : goal.loop-part-preserved
loop-part-preserved c = λ d are. parts_more d c.args.direction c.loop-part.made
    c.in_ok-part_draft.field-0 c.in_ok-made-2.made c.args.parts.now c.part-item.result
    c.part-item.result c.loop-part.part-index c.loop-part-test.true c.part-item.is
    (c.loop-part.invariant d are) (c.in_ok-part_draft.ensures d are) c.in_ok-made-2.ensures
