use Rattle.std.proofs.Common.{ap, sym, ◌∙◌}
use Rattle.ap_markup.specs.View.{parts_of}
use Rattle.ap_markup.proofs.PartSteps.{child_run, child_yes, child_no, child_end}
use Rattle.ap_markup.proofs.said.child.Goals as goal
use Rattle.ap_markup.proofs.said.child.Goals.{in-Run, in-Element+else-is_named}

pub returns-then-is_named : goal.returns-then-is_named
returns-then-is_named c =
    ap parts_of c.deref.ensures.value
    ∙ sym (child_yes c.args.name.now c.args.parts.now c.parts.part-index c.part-item.result
    c.in-Element.node c.parts-test.true c.part-item.is c.in-Element.is
    (sym c.is_named.ensures ∙ c.if-is_named.true))
    ∙ c.parts.invariant

pub parts-preserved : goal.parts-preserved
parts-preserved c =
    elim c.match-part.branch [
      | in-Run w ↦ sym (child_run c.args.name.now c.args.parts.now c.parts.part-index
          c.part-item.result _ _ c.parts-test.true c.part-item.is w.in-Run.is) ∙ c.parts.invariant
      | in-Element+else-is_named w ↦
          sym (child_no c.args.name.now c.args.parts.now c.parts.part-index c.part-item.result
          w.in-Element.node c.parts-test.true c.part-item.is w.in-Element.is
          (sym w.is_named.ensures ∙ w.if-is_named.false)) ∙ c.parts.invariant
    ]

pub returns : goal.returns
returns c = sym (child_end c.args.name.now c.args.parts.now c.parts.part-index c.parts-test.false)
    ∙ c.parts.invariant
