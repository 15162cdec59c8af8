use Rattle.std.proofs.Common.{sym, ◌∙◌}
use Rattle.ap_dix.proofs.Taken.{sections_run, sections_yes, sections_no}
use Rattle.ap_dix.proofs.sections.sections.Goals as goal
use Rattle.ap_dix.proofs.sections.sections.Goals.{in-Run, in-Element, then-is_named+in_ok-section-in-Element+in_ok-push-in-Element, else-is_named}

pub parts-preserved : goal.parts-preserved
parts-preserved c =
    elim c.match-part.branch [
      | in-Run w ↦
          sections_run c.args.names.now c.parts.yielded c.in-Some.part _ _ c.parts.made
          c.match-part.made w.in-Run.is w.made-is c.parts.invariant
      | in-Element w ↦
          let n = w.in-Element.node in
          elim w.if-is_named.branch [
            | then-is_named+in_ok-section-in-Element+in_ok-push-in-Element w' ↦
                sections_yes c.args.names.now c.parts.yielded c.in-Some.part n _ c.parts.made
                c.match-part.made w.in-Element.is
                (sym w.is_named.ensures ∙ w'.if-is_named.true)
                w'.in_ok-section-in-Element.ensures
                (w.made-is ∙ w'.made-is ∙ w'.in_ok-push-in-Element.ensures.ok)
                c.parts.invariant
            | else-is_named w' ↦
                sections_no c.args.names.now c.parts.yielded c.in-Some.part n c.parts.made
                c.match-part.made w.in-Element.is
                (sym w.is_named.ensures ∙ w'.if-is_named.false)
                (w.made-is ∙ w'.made-is) c.parts.invariant
          ]
    ]
