use Rattle.std.proofs.Common.{sym, subst, ◌∷◌, []}
use Rattle.std.specs.Prelude.{IsTrue}
use Rattle.std.proofs.lemmas.Result.{IfOk-weaker}
use Rattle.ap_dix.specs.Derivation.{Derives}
use Rattle.ap_dix.specs.Soundness.{is_sound_form}
use Rattle.ap_dix.specs.declared.dictionary.EntryPart.{EntryPart}
use Rattle.ap_compile.specs.Drafts.{IsDraftOf, is_drafted_part}
use Rattle.ap_compile.proofs.Deriving.{identity_draft, pair_draft, paradigm_draft}
use Rattle.ap_dix.specs.Plain.{plain}
use Rattle.ap_compile.proofs.Forming.{part_drafted, form_drafted, form_sound}
use Rattle.ap_compile.proofs.drafts.part_draft.Goals as goal

pub returns-in-Identity : goal.returns-in-Identity
returns-in-Identity c = IfOk-weaker c.faced_draft.result _ _ (λ made h d are.
    subst (λ (p : EntryPart). IsDraftOf (Derives d c.args.direction (p ∷ [])) made)
    (sym c.in-Identity.is) (identity_draft d c.args.direction c.in-Identity.word made h))
    c.faced_draft.ensures

pub returns-in-Pair : goal.returns-in-Pair
returns-in-Pair c = IfOk-weaker c.faced_draft-in-Pair.result _ _ (λ made h d are.
    subst (λ (p : EntryPart). IsDraftOf (Derives d c.args.direction (p ∷ [])) made)
    (sym c.in-Pair.is) (pair_draft d c.args.direction c.in-Pair.left c.in-Pair.right made h))
    c.faced_draft-in-Pair.ensures

pub returns-in-Paradigm : goal.returns-in-Paradigm
returns-in-Paradigm c = IfOk-weaker c.copy.result _ _ (λ made h d are.
    subst (λ (p : EntryPart). IsDraftOf (Derives d c.args.direction (p ∷ [])) made)
    (sym c.in-Paradigm.is)
    (paradigm_draft d c.args.direction c.in-Paradigm.n c.args.drafts.now c.draft_at-draft.result.now
    made are c.draft_at-draft.ensures h)) c.copy.ensures

pub draft_at-draft-requires : goal.draft_at-draft-requires
draft_at-draft-requires c = subst (λ (p : EntryPart). IsTrue (is_drafted_part c.args.drafts.now p))
    c.in-Paradigm.is c.requires

pub returns-in-Expression : goal.returns-in-Expression
returns-in-Expression c =
    let sound : IsTrue (is_sound_form c.in-Expression.expression) =
    subst (λ (p : EntryPart). IsTrue (is_drafted_part c.args.drafts.now p))
    c.in-Expression.is c.requires in
    IfOk-weaker c.expression_draft.result _ _ (λ made h d are.
    subst (λ (p : EntryPart). IsDraftOf (Derives d c.args.direction (p ∷ [])) made)
    (sym c.in-Expression.is)
    (part_drafted d c.args.direction c.in-Expression.expression c.in-Expression.field-1 made
    (form_drafted c.in-Expression.expression (plain c.tree.result.now) made (sym c.tree.ensures)
    (h (form_sound c.in-Expression.expression (plain c.tree.result.now) (sym c.tree.ensures)
    sound))))) c.expression_draft.ensures
