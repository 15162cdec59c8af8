use Rattle.std.proofs.Common.{◌++◌, filter, not, ap, ◌∙◌}
use Rattle.ap_symbol.specs.Words.{is_white}
use Rattle.ap_markup.proofs.PartSteps.{grows, stays, ends}
use Rattle.ap_dix.proofs.Walks.{alphabet_run, alphabet_node, alphabet_end}
use Rattle.ap_dix.proofs.sections.alphabet.Goals as goal
use Rattle.ap_dix.proofs.sections.alphabet.Goals.{in-Run+in_ok-add_letters-in-Run, in-Element}

pub parts-preserved : goal.parts-preserved
parts-preserved c =
    elim c.match-part.branch [
      | in-Run+in_ok-add_letters-in-Run w ↦
          grows c.parts.made c.match-part.made (filter (λ x. not (is_white x)) w.in-Run.text) _ _ _
          (alphabet_run c.args.parts.now c.parts.part-index c.part-item.result w.in-Run.text _
          c.parts-test.true c.part-item.is w.in-Run.is)
          (w.made-is ∙ w.in_ok-add_letters-in-Run.ensures
          ∙ ap (λ s. c.parts.made ++ filter (λ x. not (is_white x)) s) w.as_slice.ensures)
          c.parts.invariant
      | in-Element w ↦
          stays c.parts.made c.match-part.made _ _ _
          (alphabet_node c.args.parts.now c.parts.part-index c.part-item.result _ c.parts-test.true
          c.part-item.is w.in-Element.is)
          w.made-is c.parts.invariant
    ]

pub returns : goal.returns
returns c = ends c.parts.made _ _
    (alphabet_end c.args.parts.now c.parts.part-index c.parts-test.false) c.parts.invariant
