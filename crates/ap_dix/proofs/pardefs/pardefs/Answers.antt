use Rattle.std.proofs.Common.{◌≡◌, ◌+◌, ◌++◌, ◌∷◌, [], drop, ap, sym, ◌∙◌}
use Rattle.ap_markup.specs.View.{parts_of, tag_of}
use Rattle.ap_markup.specs.NameLists.{with_name}
use Rattle.ap_markup.specs.Said.{name_of}
use Rattle.ap_dix.specs.Value.{pardef, pardefs, names_with}
use Rattle.ap_markup.proofs.PartSteps.{grows, stays, ends}
use Rattle.ap_dix.proofs.Walks.{pardefs_run, pardefs_yes, pardefs_no, pardefs_end, names_with_run, names_with_yes, names_with_no, names_with_end}
use Rattle.ap_dix.proofs.pardefs.pardefs.Goals as goal
use Rattle.ap_dix.proofs.pardefs.pardefs.Goals.{in-Run, in-Element+then-is_named+in_ok-pardef-in-Element+in_ok-push-in-Element+in_ok-add-in-Element, in-Element+else-is_named}

pub parts-preserved : goal.parts-preserved
parts-preserved c =
    let rest = parts_of (drop (c.parts.part-index + 1) c.args.parts.now) in
    elim c.match-part.branch [
      | in-Run w ↦ record {
        made = stays c.parts.made c.match-part.made _ _ _
            (pardefs_run c.parts.names c.args.parts.now c.parts.part-index c.part-item.result _ _
            c.parts-test.true c.part-item.is w.in-Run.is
            ∙ ap (λ ns. pardefs ns rest) (sym w.names-is))
            w.made-is c.parts.invariant.made;
        named = ap (λ ns. names_with ns rest) w.names-is
            ∙ sym (names_with_run c.parts.names c.args.parts.now c.parts.part-index
            c.part-item.result _ _ c.parts-test.true c.part-item.is w.in-Run.is)
            ∙ c.parts.invariant.named;
      }
      | in-Element+then-is_named+in_ok-pardef-in-Element+in_ok-push-in-Element+in_ok-add-in-Element
          w ↦
          let n = w.in-Element.node in
          let after : c.match-part.names ≡ with_name c.parts.names (name_of (tag_of n).attributes) =
          w.names-is ∙ w.in_ok-add-in-Element.ensures
          ∙ ap (λ m. with_name c.parts.names m) w.name_of.ensures in
          record {
            made = grows c.parts.made c.match-part.made
                (pardef c.parts.names (tag_of n) (parts_of n.parts.items) ∷ []) _ _ _
                (pardefs_yes c.parts.names c.args.parts.now c.parts.part-index c.part-item.result n
                c.parts-test.true c.part-item.is w.in-Element.is
                (sym w.is_named.ensures ∙ w.if-is_named.true)
                ∙ ap (λ ns. pardef c.parts.names (tag_of n) (parts_of n.parts.items)
                ∷ pardefs ns rest) (sym after))
                (w.made-is ∙ w.in_ok-push-in-Element.ensures.ok
                ∙ ap (λ x. c.parts.made ++ x ∷ []) w.in_ok-pardef-in-Element.ensures)
                c.parts.invariant.made;
            named = ap (λ ns. names_with ns rest) after
                ∙ sym (names_with_yes c.parts.names c.args.parts.now c.parts.part-index
                c.part-item.result n c.parts-test.true c.part-item.is w.in-Element.is
                (sym w.is_named.ensures ∙ w.if-is_named.true)) ∙ c.parts.invariant.named;
          }
      | in-Element+else-is_named w ↦ record {
        made = stays c.parts.made c.match-part.made _ _ _
            (pardefs_no c.parts.names c.args.parts.now c.parts.part-index c.part-item.result
            w.in-Element.node c.parts-test.true c.part-item.is w.in-Element.is
            (sym w.is_named.ensures ∙ w.if-is_named.false)
            ∙ ap (λ ns. pardefs ns rest) (sym w.names-is))
            w.made-is c.parts.invariant.made;
        named = ap (λ ns. names_with ns rest) w.names-is
            ∙ sym (names_with_no c.parts.names c.args.parts.now c.parts.part-index
            c.part-item.result w.in-Element.node c.parts-test.true c.part-item.is w.in-Element.is
            (sym w.is_named.ensures ∙ w.if-is_named.false)) ∙ c.parts.invariant.named;
      }
    ]

pub returns : goal.returns
returns c = record {
  made = ends c.parts.made _ _
      (pardefs_end c.parts.names c.args.parts.now c.parts.part-index c.parts-test.false)
      c.parts.invariant.made;
  named = sym (names_with_end c.parts.names c.args.parts.now c.parts.part-index c.parts-test.false)
      ∙ c.parts.invariant.named;
}
