use Rattle.std.proofs.Common.{◌++◌, ap, ◌∙◌}
use Rattle.ap_markup.proofs.PartSteps.{grows, stays, ends}
use Rattle.ap_dix.proofs.Walks.{texts_run, texts_node, texts_end}
use Rattle.ap_dix.proofs.words.texts.Goals as goal
use Rattle.ap_dix.proofs.words.texts.Goals.{in-Run+in_ok-add_characters-in-Run, in-Element}

pub parts-preserved : goal.parts-preserved
parts-preserved c =
    elim c.match-part.branch [
      | in-Run+in_ok-add_characters-in-Run w ↦
          grows c.parts.made c.match-part.made w.in-Run.text _ _ _
          (texts_run c.args.parts.now c.parts.part-index c.part-item.result w.in-Run.text _
          c.parts-test.true c.part-item.is w.in-Run.is)
          (w.made-is ∙ w.in_ok-add_characters-in-Run.ensures
          ∙ ap (λ s. c.parts.made ++ s) w.as_slice.ensures)
          c.parts.invariant
      | in-Element w ↦
          stays c.parts.made c.match-part.made _ _ _
          (texts_node c.args.parts.now c.parts.part-index c.part-item.result _ c.parts-test.true
          c.part-item.is w.in-Element.is)
          w.made-is c.parts.invariant
    ]

pub returns : goal.returns
returns c = ends c.parts.made _ _ (texts_end c.args.parts.now c.parts.part-index c.parts-test.false)
    c.parts.invariant
