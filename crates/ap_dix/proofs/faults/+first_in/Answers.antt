use Rattle.std.proofs.Common.{◌≡◌, ◌+◌, drop, ap, sym, ◌∙◌, None}
use Rattle.ap_markup.specs.View.{parts_of, tag_of}
use Rattle.ap_dix.specs.Faults.{marked, tag_kind, first_in, defined_in, defined_after}
use Rattle.ap_markup.specs.NameLists.{with_name}
use Rattle.ap_markup.specs.Said.{name_of}
use Rattle.ap_dix.proofs.Walks.{first_here, first_within, first_later, first_run, first_end, defined_later, defined_run, defined_end, after_yes, after_no}
use Rattle.ap_dix.proofs.faults.+first_in.Goals as goal
use Rattle.ap_dix.proofs.faults.+first_in.Goals.{in-Run, in-Element+in_ok-mark-in-Element+in_default+in_ok-mark-in-Element-2+in_default-2+then-is_named+in_ok-add-in-Element, in-Element+in_ok-mark-in-Element+in_default+in_ok-mark-in-Element-2+in_default-2+else-is_named}

pub parts-preserved : goal.parts-preserved
parts-preserved t c =
    let rest = parts_of (drop (c.parts.part-index + 1) c.args.parts.now) in
    elim c.match-part.branch [
      | in-Run w ↦ record {
        first = ap (λ ds. first_in c.args.declared.now ds rest) w.defined-is
            ∙ sym (first_run c.args.declared.now c.parts.defined c.args.parts.now c.parts.part-index
            c.part-item.result _ _ c.parts-test.true c.part-item.is w.in-Run.is)
            ∙ c.parts.invariant.first;
        after = ap (λ ds. defined_in ds rest) w.defined-is
            ∙ sym (defined_run c.parts.defined c.args.parts.now c.parts.part-index
            c.part-item.result _ _ c.parts-test.true c.part-item.is w.in-Run.is)
            ∙ c.parts.invariant.after;
      }
      | in-Element+in_ok-mark-in-Element+in_default+in_ok-mark-in-Element-2+in_default-2+then-is_named+in_ok-add-in-Element w ↦
          let n = w.in-Element.node in
          let kids = parts_of n.parts.items in
          let own : marked (tag_of n) (tag_kind c.args.declared.now c.parts.defined (tag_of n) kids)
          ≡ None = sym w.in_ok-mark-in-Element.ensures ∙ w.in_default.is in
          let inner : first_in c.args.declared.now c.parts.defined kids ≡ None =
          ap (λ ps. first_in c.args.declared.now c.parts.defined (parts_of ps))
          (sym w.deref.ensures.value) ∙ sym w.in_ok-mark-in-Element-2.ensures.first
          ∙ w.in_default-2.is in
          let gone : w.first_in.new.defined
          ≡ defined_in c.parts.defined (parts_of w.deref.result.now) =
          rw w.in_default-2.is at w.in_ok-mark-in-Element-2.ensures.after in
          let within : w.first_in.new.defined ≡ defined_in c.parts.defined kids =
          gone ∙ ap (λ ps. defined_in c.parts.defined (parts_of ps)) w.deref.ensures.value in
          let after : c.match-part.defined
          ≡ defined_after (tag_of n) (defined_in c.parts.defined kids) =
          w.defined-is ∙ w.in_ok-add-in-Element.ensures
          ∙ ap (λ m. with_name w.first_in.new.defined m) w.name_of.ensures
          ∙ ap (λ ds. with_name ds (name_of (tag_of n).attributes)) within
          ∙ sym (after_yes n (defined_in c.parts.defined kids)
          (sym w.is_named.ensures ∙ w.if-is_named.true)) in
          record {
            first = sym (first_later c.args.declared.now c.parts.defined c.match-part.defined
                c.args.parts.now c.parts.part-index c.part-item.result n c.parts-test.true
                c.part-item.is w.in-Element.is own inner after) ∙ c.parts.invariant.first;
            after = sym (defined_later c.parts.defined c.match-part.defined c.args.parts.now
                c.parts.part-index c.part-item.result n c.parts-test.true c.part-item.is
                w.in-Element.is after) ∙ c.parts.invariant.after;
          }
      | in-Element+in_ok-mark-in-Element+in_default+in_ok-mark-in-Element-2+in_default-2+else-is_named w ↦
          let n = w.in-Element.node in
          let kids = parts_of n.parts.items in
          let own : marked (tag_of n) (tag_kind c.args.declared.now c.parts.defined (tag_of n) kids)
          ≡ None = sym w.in_ok-mark-in-Element.ensures ∙ w.in_default.is in
          let inner : first_in c.args.declared.now c.parts.defined kids ≡ None =
          ap (λ ps. first_in c.args.declared.now c.parts.defined (parts_of ps))
          (sym w.deref.ensures.value) ∙ sym w.in_ok-mark-in-Element-2.ensures.first
          ∙ w.in_default-2.is in
          let gone : w.first_in.new.defined
          ≡ defined_in c.parts.defined (parts_of w.deref.result.now) =
          rw w.in_default-2.is at w.in_ok-mark-in-Element-2.ensures.after in
          let within : w.first_in.new.defined ≡ defined_in c.parts.defined kids =
          gone ∙ ap (λ ps. defined_in c.parts.defined (parts_of ps)) w.deref.ensures.value in
          let after : c.match-part.defined
          ≡ defined_after (tag_of n) (defined_in c.parts.defined kids) =
          w.defined-is ∙ within
          ∙ sym (after_no n (defined_in c.parts.defined kids)
          (sym w.is_named.ensures ∙ w.if-is_named.false)) in
          record {
            first = sym (first_later c.args.declared.now c.parts.defined c.match-part.defined
                c.args.parts.now c.parts.part-index c.part-item.result n c.parts-test.true
                c.part-item.is w.in-Element.is own inner after) ∙ c.parts.invariant.first;
            after = sym (defined_later c.parts.defined c.match-part.defined c.args.parts.now
                c.parts.part-index c.part-item.result n c.parts-test.true c.part-item.is
                w.in-Element.is after) ∙ c.parts.invariant.after;
          }
    ]

pub returns-in-Some-clause-first : goal.returns-in-Some-clause-first
returns-in-Some-clause-first t c =
    sym (first_here c.args.declared.now c.parts.defined c.args.parts.now c.parts.part-index
    c.part-item.result c.in-Element.node c.in-Some.mark c.parts-test.true c.part-item.is
    c.in-Element.is (sym c.in_ok-mark-in-Element.ensures ∙ c.in-Some.is))
    ∙ c.parts.invariant.first

pub returns-in-Some-2-clause-first : goal.returns-in-Some-2-clause-first
returns-in-Some-2-clause-first t c =
    sym (first_within c.args.declared.now c.parts.defined c.args.parts.now c.parts.part-index
    c.part-item.result c.in-Element.node c.in-Some-2.mark c.parts-test.true c.part-item.is
    c.in-Element.is (sym c.in_ok-mark-in-Element.ensures ∙ c.in_default.is)
    (ap (λ ps. first_in c.args.declared.now c.parts.defined (parts_of ps))
    (sym c.deref.ensures.value) ∙ sym c.in_ok-mark-in-Element-2.ensures.first ∙ c.in-Some-2.is))
    ∙ c.parts.invariant.first

pub returns-clause-first : goal.returns-clause-first
returns-clause-first t c =
    sym (first_end c.args.declared.now c.parts.defined c.args.parts.now c.parts.part-index
    c.parts-test.false) ∙ c.parts.invariant.first

pub returns-clause-after : goal.returns-clause-after
returns-clause-after t c =
    sym (defined_end c.parts.defined c.args.parts.now c.parts.part-index c.parts-test.false)
    ∙ c.parts.invariant.after
