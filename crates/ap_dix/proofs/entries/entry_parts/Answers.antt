use Rattle.std.proofs.Common.{◌∷◌, [], sym, ◌∙◌, Some, None}
use Rattle.ap_markup.proofs.PartSteps.{grows, stays, ends}
use Rattle.ap_dix.proofs.Walks.{entry_parts_run, entry_parts_node, entry_parts_end}
use Rattle.ap_dix.proofs.entries.entry_parts.Goals as goal
use Rattle.ap_dix.proofs.entries.entry_parts.Goals.{in-Run, in-Element+in_ok-one-in-Element+in-Some+in_ok-push-in-Element, in-Element+in_ok-one-in-Element+in_default}

pub parts-preserved : goal.parts-preserved
parts-preserved c =
    elim c.match-part.branch [
      | in-Run w ↦
          stays c.parts.made c.match-part.made _ _ _
          (entry_parts_run c.args.names.now c.args.parts.now c.parts.part-index c.part-item.result _
          _ c.parts-test.true c.part-item.is w.in-Run.is)
          w.made-is c.parts.invariant
      | in-Element+in_ok-one-in-Element+in-Some+in_ok-push-in-Element w ↦
          grows c.parts.made c.match-part.made (w.in-Some.one ∷ []) _ _ _
          (entry_parts_node c.args.names.now c.args.parts.now c.parts.part-index c.part-item.result
          w.in-Element.node (Some w.in-Some.one) c.parts-test.true c.part-item.is
          w.in-Element.is (sym w.in-Some.is ∙ w.in_ok-one-in-Element.ensures))
          (w.made-is ∙ w.in_ok-push-in-Element.ensures.ok)
          c.parts.invariant
      | in-Element+in_ok-one-in-Element+in_default w ↦
          stays c.parts.made c.match-part.made _ _ _
          (entry_parts_node c.args.names.now c.args.parts.now c.parts.part-index c.part-item.result
          w.in-Element.node None c.parts-test.true c.part-item.is w.in-Element.is
          (sym w.in_default.is ∙ w.in_ok-one-in-Element.ensures))
          w.made-is c.parts.invariant
    ]

pub returns : goal.returns
returns c = c.fitted.ensures
    ∙ ends c.parts.made _ _ (entry_parts_end c.args.names.now c.args.parts.now c.parts.part-index
    c.parts-test.false) c.parts.invariant
