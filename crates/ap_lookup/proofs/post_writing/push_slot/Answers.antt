use Rattle.std.proofs.Common.{◌∙◌, ap, sym, ◌++◌, List, [], ℕ}
use Rattle.ap_lookup.specs.PostGenerating.{filling}
use Rattle.ap_lookup.proofs.PostWritings.{slot_here, slot_none}
use Rattle.ap_lookup.proofs.post_writing.push_slot.Goals as goal

pub returns-in-Blank-clause-text : goal.returns-in-Blank-clause-text
returns-in-Blank-clause-text c =
    let here = slot_here c.args.reads.now c.args.from c.loop-at.at c.loop-at.invariant.same
    c.index-reads-at.result c.in-Blank.blank c.loop-at-test.true c.in-Blank.is in
    c.in_ok-extend.ensures.ok
    ∙ ap (λ (z : List ℕ). z ++ c.as_slice.result.now) c.loop-at.invariant.text
    ∙ ap (λ (z : List ℕ). c.args.text.now ++ z) c.as_slice.ensures
    ∙ ap (λ (z : List (List ℕ)). c.args.text.now ++ filling z) (sym here)

pub returns-clause-text : goal.returns-clause-text
returns-clause-text c = c.in_ok-extend-2.ensures.ok
    ∙ ap (λ (z : List ℕ). z ++ filling []) c.loop-at.invariant.text
    ∙ ap (λ (z : List (List ℕ)). c.args.text.now ++ filling z)
    (sym (slot_none c.args.reads.now c.args.from c.loop-at.at c.loop-at.invariant.same
    c.loop-at-test.false))
