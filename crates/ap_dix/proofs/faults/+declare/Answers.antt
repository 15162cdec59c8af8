use Rattle.std.proofs.Common.{◌≡◌, ◌+◌, drop, ap, sym, ◌∙◌}
use Rattle.ap_markup.specs.View.{parts_of, tag_of}
use Rattle.ap_dix.specs.Faults.{declared_by, declared_in}
use Rattle.ap_markup.specs.NameLists.{with_name}
use Rattle.ap_dix.proofs.Walks.{declared_run, declared_later, declared_end, by_yes, by_no}
use Rattle.ap_dix.proofs.faults.+declare.Goals as goal
use Rattle.ap_dix.proofs.faults.+declare.Goals.{in-Run, in-Element+in_ok-declare-in-Element, then-is_named+in_ok-add-in-Element, else-is_named}

pub parts-preserved : goal.parts-preserved
parts-preserved t c =
    let rest = parts_of (drop (c.parts.part-index + 1) c.args.parts.now) in
    elim c.match-part.branch [
      | in-Run w ↦ ap (λ ns. declared_in ns rest) w.names-is
          ∙ sym (declared_run c.parts.names c.args.parts.now c.parts.part-index c.part-item.result _
          _ c.parts-test.true c.part-item.is w.in-Run.is) ∙ c.parts.invariant
      | in-Element+in_ok-declare-in-Element w ↦
          let n = w.in-Element.node in
          let own : w.if-is_named.names ≡ declared_by (tag_of n) c.parts.names =
          elim w.if-is_named.branch [
            | then-is_named+in_ok-add-in-Element w' ↦ w'.names-is ∙ w'.in_ok-add-in-Element.ensures
                ∙ ap (λ m. with_name c.parts.names m) w'.name_of.ensures
                ∙ sym (by_yes n c.parts.names (sym w.is_named.ensures ∙ w'.if-is_named.true))
            | else-is_named w' ↦ w'.names-is
                ∙ sym (by_no n c.parts.names (sym w.is_named.ensures ∙ w'.if-is_named.false))
          ] in
          sym (declared_later c.parts.names w.if-is_named.names c.match-part.names c.args.parts.now
          c.parts.part-index c.part-item.result n c.parts-test.true c.part-item.is
          w.in-Element.is own
          (w.names-is ∙ w.in_ok-declare-in-Element.ensures
          ∙ ap (λ ps. declared_in w.if-is_named.names (parts_of ps)) w.deref.ensures.value))
          ∙ c.parts.invariant
    ]

pub returns : goal.returns
returns t c = sym (declared_end c.parts.names c.args.parts.now c.parts.part-index
    c.parts-test.false) ∙ c.parts.invariant
