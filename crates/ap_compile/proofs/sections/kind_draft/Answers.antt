use Rattle.ap_compile.specs.Drafts.{SpellsIn}
use Rattle.ap_compile.proofs.Choosing.{any_more}
use Rattle.ap_compile.proofs.sections.kind_draft.Goals as goal

pub loop-section-preserved : goal.loop-section-preserved
loop-section-preserved c =
    λ d are. any_more (SpellsIn d c.args.direction c.args.kind) c.loop-section.made
    c.in_ok-made-2.made c.args.sections.now c.section-item.result c.section-item.result
    c.loop-section.section-index c.loop-section-test.true c.section-item.is
    (c.loop-section.invariant d are) (c.in_ok-made-2.ensures d are)
