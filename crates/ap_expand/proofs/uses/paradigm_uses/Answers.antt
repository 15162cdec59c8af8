use Rattle.std.proofs.Common.{List, ◌∙◌, ap}
use Rattle.ap_expand.specs.Uses.{entries_uses}
use Rattle.ap_expand.specs.declared.uses.Uses.{Uses}
use Rattle.ap_expand.proofs.Using.{pardefs-on, pardefs-done}
use Rattle.ap_expand.proofs.uses.paradigm_uses.Goals as goal

pub loop-pardef-preserved : goal.loop-pardef-preserved
loop-pardef-preserved c =
    pardefs-on c.args.pardefs.now c.loop-pardef.pardef-index c.pardef-item.result
    c.loop-pardef.uses.items c.push.new.self.items c.entries_uses-made.result
    c.loop-pardef-test.true c.pardef-item.is
    (c.entries_uses-made.ensures
    ∙ ap (λ (us : List Uses). entries_uses us c.as_slice-in-loop-pardef.result.now)
    c.as_slice.ensures.value
    ∙ ap (entries_uses c.loop-pardef.uses.items) c.as_slice-in-loop-pardef.ensures)
    c.in_ok-push.ensures.items c.loop-pardef.invariant

pub returns : goal.returns
returns c = pardefs-done c.args.pardefs.now c.loop-pardef.pardef-index c.loop-pardef.uses.items
    c.loop-pardef-test.false c.loop-pardef.invariant
