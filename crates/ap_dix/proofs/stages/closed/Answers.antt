use Rattle.std.proofs.Common.{◌≡◌, true, length, eqb, vec_len, refl, ◌∙◌, ap}
use Rattle.std.proofs.lemmas.Bool.{false≢true}
use Rattle.ap_dix.specs.Views.{stage_of}
use Rattle.ap_dix.proofs.PlainLaws.{closed_by}
use Rattle.ap_dix.proofs.stages.closed.Goals as goal

pub returns : goal.returns
returns c =
    closed_by (stage_of c.args.stage) c.in_ok-factors.factors c.args.stage.choices.items
    c.push.new.self.items c.in_ok-factors.ensures
    (λ e.
    let len : vec_len c.in_ok-factors.factors ≡ length c.in_ok-factors.factors.items =
    c.in_ok-factors.factors.ok.0 in
    let none : eqb (vec_len c.in_ok-factors.factors) 0 ≡ true =
    ap (λ n. eqb n 0) (len ∙ ap length e) in
    false≢true (c.if-is_empty.ensures ∙ none))
    c.in_ok-push.ensures.items refl
