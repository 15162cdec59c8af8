use Rattle.std.proofs.Common.{◌≡◌, [], refl, sym, ◌∙◌, ap, true, false}
use Rattle.ap_dix.specs.Forms.{star, plus, forms_of}
use Rattle.ap_dix.specs.Language.{Lang, LangAll, LangSome, done}
use Rattle.ap_dix.specs.Plain.{plain}
use Rattle.ap_compile.proofs.Forming.{all_empty_more, empty_each, some_empty, no_empty_more, all_forms, empty_plus, form_empty, sequence_form, either_form}
use Rattle.ap_compile.proofs.expressions.+empty.Goals as goal

pub all_have_empty-loop-e-init : goal.all_have_empty-loop-e-init
all_have_empty-loop-e-init t c = refl

pub all_have_empty-loop-e-preserved : goal.all_have_empty-loop-e-preserved
all_have_empty-loop-e-preserved t c =
    all_empty_more c.args.es.now c.e-item.result c.e-item.result c.loop-e.e-index c.loop-e-test.true
    c.e-item.is c.loop-e.invariant (c.has_empty.ensures.0 c.if-not-has_empty.false)

pub all_have_empty-returns-then-not-has_empty : goal.all_have_empty-returns-then-not-has_empty
all_have_empty-returns-then-not-has_empty t c = (
  (λ h. cc),
  (λ l. sym c.if-not-has_empty.true
      ∙ c.has_empty.ensures.1 (empty_each c.args.es.now c.loop-e.e-index c.e-item.result
      c.e-item.result c.loop-e-test.true c.e-item.is l)),
)

pub all_have_empty-returns : goal.all_have_empty-returns
all_have_empty-returns t c = (
  (λ h. all_forms (λ fs. LangAll (forms_of fs) []) c.args.es.now c.loop-e.e-index
      c.loop-e-test.false c.loop-e.invariant),
  (λ l. refl),
)

pub some_has_empty-loop-e-init : goal.some_has_empty-loop-e-init
some_has_empty-loop-e-init t c = λ l. l

pub some_has_empty-loop-e-preserved : goal.some_has_empty-loop-e-preserved
some_has_empty-loop-e-preserved t c =
    no_empty_more c.args.es.now c.e-item.result c.e-item.result c.loop-e.e-index c.loop-e-test.true
    c.e-item.is c.loop-e.invariant (λ k. let y : c.has_empty.result ≡ true = c.has_empty.ensures.1 k
    in let n : c.has_empty.result ≡ false = c.if-has_empty.false in cc)

pub some_has_empty-returns-then-has_empty : goal.some_has_empty-returns-then-has_empty
some_has_empty-returns-then-has_empty t c = (
  (λ h. some_empty c.args.es.now c.loop-e.e-index c.e-item.result c.e-item.result
      c.loop-e-test.true c.e-item.is (c.has_empty.ensures.0 c.if-has_empty.true)),
  (λ l. refl),
)

pub some_has_empty-returns : goal.some_has_empty-returns
some_has_empty-returns t c = (
  (λ h. cc),
  (λ l. absurd (all_forms (λ fs. LangSome (forms_of fs) [] → ⊥) c.args.es.now
      c.loop-e.e-index c.loop-e-test.false c.loop-e.invariant l)),
)

pub has_empty-returns-in-Sequence : goal.has_empty-returns-in-Sequence
has_empty-returns-in-Sequence t c =
    form_empty _ _ c.all_have_empty.result
    (sequence_form c.args.e.now c.in-Sequence.es c.as_slice.result.now c.in-Sequence.is
    c.as_slice.ensures.value) c.all_have_empty.ensures

pub has_empty-returns-in-Either : goal.has_empty-returns-in-Either
has_empty-returns-in-Either t c =
    form_empty _ _ c.some_has_empty.result
    (either_form c.args.e.now c.in-Either.es c.as_slice-in-Either.result.now c.in-Either.is
    c.as_slice-in-Either.ensures.value) c.some_has_empty.ensures

pub has_empty-returns-in-Star : goal.has_empty-returns-in-Star
has_empty-returns-in-Star t c =
    let is : plain c.args.e.now ≡ star (plain c.in-Star.field-0.value) = ap plain c.in-Star.is in
    form_empty _ _ true is ((λ h. done), (λ l. refl))

pub has_empty-returns-in-Plus : goal.has_empty-returns-in-Plus
has_empty-returns-in-Plus t c =
    let is : plain c.args.e.now ≡ plus (plain c.deref.result.now) =
    ap plain c.in-Plus.is ∙ ap (λ z. plus (plain z)) (sym c.deref.ensures) in
    form_empty _ _ c.has_empty.result is
    (empty_plus (Lang (plain c.deref.result.now)) c.has_empty.result c.has_empty.ensures)
