use Rattle.std.proofs.Common.{sym, ◌∙◌}
use Rattle.ap_dix.proofs.Taken.{entries_run, entries_yes, entries_no}
use Rattle.ap_dix.proofs.entries.into_entries.Goals as goal
use Rattle.ap_dix.proofs.entries.into_entries.Goals.{in-Run, in-Element, then-is_named+in_ok-entry-in-Element+in_ok-push-in-Element, else-is_named}

pub parts-preserved : goal.parts-preserved
parts-preserved c =
    elim c.match-part.branch [
      | in-Run w ↦
          entries_run c.args.names.now c.parts.yielded c.in-Some.part _ _ c.parts.made
          c.match-part.made w.in-Run.is w.made-is c.parts.invariant
      | in-Element w ↦
          let n = w.in-Element.node in
          elim w.if-is_named.branch [
            | then-is_named+in_ok-entry-in-Element+in_ok-push-in-Element w' ↦
                entries_yes c.args.names.now c.parts.yielded c.in-Some.part n _ c.parts.made
                c.match-part.made w.in-Element.is
                (sym w.is_named.ensures ∙ w'.if-is_named.true)
                w'.in_ok-entry-in-Element.ensures
                (w.made-is ∙ w'.made-is ∙ w'.in_ok-push-in-Element.ensures.ok)
                c.parts.invariant
            | else-is_named w' ↦
                entries_no c.args.names.now c.parts.yielded c.in-Some.part n c.parts.made
                c.match-part.made w.in-Element.is
                (sym w.is_named.ensures ∙ w'.if-is_named.false)
                (w.made-is ∙ w'.made-is) c.parts.invariant
          ]
    ]
