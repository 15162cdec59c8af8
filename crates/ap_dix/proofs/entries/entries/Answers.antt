use Rattle.std.proofs.Common.{◌++◌, ◌∷◌, [], ap, sym, ◌∙◌}
use Rattle.ap_markup.specs.View.{parts_of, tag_of}
use Rattle.ap_dix.specs.Value.{entry}
use Rattle.ap_markup.proofs.PartSteps.{grows, stays, ends}
use Rattle.ap_dix.proofs.Walks.{entries_run, entries_yes, entries_no, entries_end}
use Rattle.ap_dix.proofs.entries.entries.Goals as goal
use Rattle.ap_dix.proofs.entries.entries.Goals.{in-Run, in-Element+then-is_named+in_ok-entry-in-Element+in_ok-push-in-Element, in-Element+else-is_named}

pub parts-preserved : goal.parts-preserved
parts-preserved c =
    elim c.match-part.branch [
      | in-Run w ↦
          stays c.parts.made c.match-part.made _ _ _
          (entries_run c.args.names.now c.args.parts.now c.parts.part-index c.part-item.result _ _
          c.parts-test.true c.part-item.is w.in-Run.is)
          w.made-is c.parts.invariant
      | in-Element+then-is_named+in_ok-entry-in-Element+in_ok-push-in-Element w ↦
          grows c.parts.made c.match-part.made
          (entry c.args.names.now (tag_of w.in-Element.node)
          (parts_of w.in-Element.node.parts.items) ∷ []) _ _ _
          (entries_yes c.args.names.now c.args.parts.now c.parts.part-index c.part-item.result
          w.in-Element.node c.parts-test.true c.part-item.is w.in-Element.is
          (sym w.is_named.ensures ∙ w.if-is_named.true))
          (w.made-is ∙ w.in_ok-push-in-Element.ensures.ok
          ∙ ap (λ x. c.parts.made ++ x ∷ []) w.in_ok-entry-in-Element.ensures)
          c.parts.invariant
      | in-Element+else-is_named w ↦
          stays c.parts.made c.match-part.made _ _ _
          (entries_no c.args.names.now c.args.parts.now c.parts.part-index c.part-item.result
          w.in-Element.node c.parts-test.true c.part-item.is w.in-Element.is
          (sym w.is_named.ensures ∙ w.if-is_named.false))
          w.made-is c.parts.invariant
    ]

pub returns : goal.returns
returns c = c.fitted.ensures
    ∙ ends c.parts.made _ _ (entries_end c.args.names.now c.args.parts.now c.parts.part-index
    c.parts-test.false) c.parts.invariant
