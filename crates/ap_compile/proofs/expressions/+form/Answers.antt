use Rattle.std.proofs.Common.{◌≡◌, [], sym, ◌∙◌, ap}
use Rattle.std.proofs.lemmas.Result.{IfOk-weaker}
use Rattle.ap_dix.specs.Forms.{star, plus, opt, forms_of}
use Rattle.ap_dix.specs.Language.{Lang, LangAll, LangSome}
use Rattle.ap_dix.specs.Plain.{plain}
use Rattle.ap_compile.specs.Drafts.{IsDraftOf}
use Rattle.ap_compile.specs.Forming.{OfStrings}
use Rattle.ap_compile.proofs.Drafting.{no_draft}
use Rattle.ap_compile.proofs.Forming.{empty_drafted, sequence_more, choice_more, all_forms, sound_one, sequence_form, either_form, form_drafted, form_sound, star_drafted, plus_drafted, opt_drafted}
use Rattle.ap_compile.proofs.expressions.+form.Goals as goal

pub sequence_draft-loop-e-init : goal.sequence_draft-loop-e-init
sequence_draft-loop-e-init t c = λ sound. empty_drafted c.in_ok-made.made c.in_ok-made.ensures

pub choice_draft-loop-e-init : goal.choice_draft-loop-e-init
choice_draft-loop-e-init t c =
    λ sound. no_draft (OfStrings (LangSome (forms_of []))) c.in_ok-made.made c.in_ok-made.ensures
    (λ w o. o.held)

pub sequence_draft-loop-e-preserved : goal.sequence_draft-loop-e-preserved
sequence_draft-loop-e-preserved t c =
    λ sound. sequence_more c.args.es.now c.e-item.result c.e-item.result c.loop-e.e-index
    c.loop-e.made c.in_ok-expression_draft.field-0 c.in_ok-made-2.made c.loop-e-test.true
    c.e-item.is (c.loop-e.invariant sound)
    (c.in_ok-expression_draft.ensures
    (sound_one c.args.es.now c.loop-e.e-index c.e-item.result c.e-item.result c.loop-e-test.true
    c.e-item.is sound)) c.in_ok-made-2.ensures

pub choice_draft-loop-e-preserved : goal.choice_draft-loop-e-preserved
choice_draft-loop-e-preserved t c =
    λ sound. choice_more c.args.es.now c.e-item.result c.e-item.result c.loop-e.e-index
    c.loop-e.made c.in_ok-expression_draft.field-0 c.in_ok-made-2.made c.loop-e-test.true
    c.e-item.is (c.loop-e.invariant sound)
    (c.in_ok-expression_draft.ensures
    (sound_one c.args.es.now c.loop-e.e-index c.e-item.result c.e-item.result c.loop-e-test.true
    c.e-item.is sound)) c.in_ok-made-2.ensures

pub sequence_draft-returns : goal.sequence_draft-returns
sequence_draft-returns t c =
    λ sound. all_forms (λ fs. IsDraftOf (OfStrings (LangAll (forms_of fs))) c.loop-e.made)
    c.args.es.now c.loop-e.e-index c.loop-e-test.false (c.loop-e.invariant sound)

pub choice_draft-returns : goal.choice_draft-returns
choice_draft-returns t c =
    λ sound. all_forms (λ fs. IsDraftOf (OfStrings (LangSome (forms_of fs))) c.loop-e.made)
    c.args.es.now c.loop-e.e-index c.loop-e-test.false (c.loop-e.invariant sound)

pub expression_draft-returns-in-Sequence : goal.expression_draft-returns-in-Sequence
expression_draft-returns-in-Sequence t c =
    IfOk-weaker c.sequence_draft.result _ _ (λ made h sound. let is =
    sequence_form c.args.e.now c.in-Sequence.es c.as_slice-in-Sequence.result.now c.in-Sequence.is
    c.as_slice-in-Sequence.ensures.value in form_drafted _ _ made is (h (form_sound _ _ is sound)))
    c.sequence_draft.ensures

pub expression_draft-returns-in-Either : goal.expression_draft-returns-in-Either
expression_draft-returns-in-Either t c =
    IfOk-weaker c.choice_draft.result _ _ (λ made h sound. let is =
    either_form c.args.e.now c.in-Either.es c.as_slice-in-Either.result.now c.in-Either.is
    c.as_slice-in-Either.ensures.value in form_drafted _ _ made is (h (form_sound _ _ is sound)))
    c.choice_draft.ensures

pub expression_draft-returns-in_ok-expression_draft-in-Star :
    goal.expression_draft-returns-in_ok-expression_draft-in-Star
expression_draft-returns-in_ok-expression_draft-in-Star t c =
    let is : plain c.args.e.now ≡ star (plain c.deref.result.now) =
    ap plain c.in-Star.is ∙ ap (λ z. star (plain z)) (sym c.deref.ensures) in
    IfOk-weaker c.star.result _ _
    (λ made h sound. form_drafted _ _ made is
    (star_drafted (Lang (plain c.deref.result.now)) c.in_ok-expression_draft-in-Star.field-0
    made (c.in_ok-expression_draft-in-Star.ensures (form_sound _ _ is sound)) h)) c.star.ensures

pub expression_draft-returns-in_ok-expression_draft-in-Plus :
    goal.expression_draft-returns-in_ok-expression_draft-in-Plus
expression_draft-returns-in_ok-expression_draft-in-Plus t c =
    let is : plain c.args.e.now ≡ plus (plain c.deref-in-Plus.result.now) =
    ap plain c.in-Plus.is ∙ ap (λ z. plus (plain z)) (sym c.deref-in-Plus.ensures) in
    IfOk-weaker c.plus.result _ _
    (λ made h sound. form_drafted _ _ made is
    (plus_drafted (Lang (plain c.deref-in-Plus.result.now))
    c.in_ok-expression_draft-in-Plus.field-0 made
    (c.in_ok-expression_draft-in-Plus.ensures (form_sound _ _ is sound)) h)) c.plus.ensures

pub expression_draft-returns-in_ok-expression_draft-in-Opt :
    goal.expression_draft-returns-in_ok-expression_draft-in-Opt
expression_draft-returns-in_ok-expression_draft-in-Opt t c =
    let is : plain c.args.e.now ≡ opt (plain c.deref-in-Opt.result.now) =
    ap plain c.in-Opt.is ∙ ap (λ z. opt (plain z)) (sym c.deref-in-Opt.ensures) in
    IfOk-weaker c.opt.result _ _
    (λ made h sound. form_drafted _ _ made is
    (opt_drafted (Lang (plain c.deref-in-Opt.result.now))
    c.in_ok-expression_draft-in-Opt.field-0 made
    (c.in_ok-expression_draft-in-Opt.ensures (form_sound _ _ is sound)) h)) c.opt.ensures
