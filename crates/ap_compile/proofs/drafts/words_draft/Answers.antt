use Rattle.std.proofs.Common.{◌<◌, sym, ◌∙◌, ap, subst, length, ℕ, Some}
use Rattle.std.specs.Prelude.{IsTrue}
use Rattle.ap_dix.specs.Derivation.{paired}
use Rattle.ap_fst.specs.Sections.{is_plain_label}
use Rattle.ap_fst.specs.Sides.{has_side}
use Rattle.ap_fst.specs.declared.label.Label.{Label}
use Rattle.ap_compile.specs.Labels.{derived_label}
use Rattle.ap_compile.proofs.Words.{sided, plain_label, paired_at}
use Rattle.ap_compile.proofs.Drafting.{letter_draft}
use Rattle.ap_compile.proofs.Deriving.{labels_more}
use Rattle.ap_compile.proofs.drafts.words_draft.Goals as goal

pub letter-requires : goal.letter-requires
letter-requires c =
    let lt : c.loop-at.at < length (paired c.args.left.now c.args.right.now) =
    subst (λ (n : ℕ). c.loop-at.at < n) c.longer-at-end.ensures c.loop-at-test.true in
    subst (λ (z : Label). IsTrue (has_side z)) (sym c.in_ok-label.ensures)
    (sided c.args.left.now c.args.right.now c.loop-at.at lt)

pub loop-at-preserved : goal.loop-at-preserved
loop-at-preserved c =
    let lt : c.loop-at.at < length (paired c.args.left.now c.args.right.now) =
    subst (λ (n : ℕ). c.loop-at.at < n) c.longer-at-end.ensures c.loop-at-test.true in
    labels_more (paired c.args.left.now c.args.right.now) c.loop-at.made c.in_ok-letter.field-0
    c.in_ok-made-2.made c.in_ok-label.label c.loop-at.at
    (paired_at c.args.left.now c.args.right.now c.loop-at.at lt
    ∙ ap (λ (z : Label). Some (derived_label z)) (sym c.in_ok-label.ensures))
    c.loop-at.invariant
    (letter_draft c.in_ok-letter.field-0 c.in_ok-label.label c.in_ok-letter.ensures
    (subst (λ (z : Label). IsTrue (is_plain_label z)) (sym c.in_ok-label.ensures)
    (plain_label c.args.left.now c.args.right.now c.loop-at.at c.requires.left
    c.requires.right)))
    (rw c.made.view_is at c.in_ok-made-2.ensures)
