use Rattle.std.proofs.Common.{arith, Bool, sym, subst, ◌∙◌}
use Rattle.std.specs.Prelude.{IfSome}
use Rattle.ap_analysis.specs.FrontSteps.{FitsStep}
use Rattle.ap_analysis.proofs.FrontFits.{fits_open}
use Rattle.ap_analysis.proofs.Running.{some_weaker}
use Rattle.ap_analysis.proofs.front_steps.seen_by.Goals as goal

pub returns-then-any_ending : goal.returns-then-any_ending
returns-then-any_ending c =
    subst (λ (t : Bool). IfSome c.behind.result (FitsStep c.args.key.now t c.args.piece.now))
    (sym c.if-any_ending.true)
    (some_weaker c.behind.result _ _ (λ seen is. fits_open c.args.key.now c.args.piece.now seen
    (let z = c.if-size-gt-KEY_MAX.false in omega (arith, z))
    (let z = c.if-piece-size.false in omega (arith, z)) (c.are_same.ensures c.if-not-are_same.false)
    (sym c.is_ending.ensures ∙ c.if-not-is_ending.false) is) c.behind.ensures)
