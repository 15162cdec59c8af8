use Rattle.std.proofs.Common.{sym, ◌∙◌, subst, [], ◌∷◌}
use Rattle.ap_trim.specs.Products.{GoesOn}
use Rattle.ap_trim.specs.declared.watch.Watch.{Watch}
use Rattle.ap_trim.proofs.Steps.{tags_behind}
use Rattle.ap_trim.proofs.stepping.step_by.Goals as goal

pub returns-in_ok-next-in-Tags-clause-goes : goal.returns-in_ok-next-in-Tags-clause-goes
returns-in_ok-next-in-Tags-clause-goes c = subst (λ (w : Watch). GoesOn c.args.fst.now
    c.step_behind.new.sets w c.in_ok-next-in-Tags.next (c.args.symbol.now ∷ [])) (sym c.in-Tags.is)
    (tags_behind c.args.fst.now c.args.symbol.now c.step_behind.new.sets c.in-Tags.number
    c.in_ok-next-in-Tags.next (sym c.is_joint.ensures ∙ c.if-is_joint.false)
    c.in_ok-next-in-Tags.ensures.goes)
