use Rattle.std.proofs.Common.{◌∙◌, sym}
use Rattle.ap_lookup.proofs.Translations.{live_back, true_not, false_not}
use Rattle.ap_lookup.proofs.translation.step_one.Goals as goal

pub returns-then-is_dead-clause-off : goal.returns-then-is_dead-clause-off
returns-then-is_dead-clause-off c = λ _ symbols many live.
    let on = c.in_ok-step.ensures.ok symbols live in (
      live_back c.args.compiled.now c.args.sensitive symbols c.args.symbol.now c.args.at
          c.cut.new.self many (c.cut.ensures c.args.compiled.now c.args.sensitive _ on),
      true_not _ (sym c.if-is_dead.true ∙ c.is_dead.ensures c.args.sensitive _ on),
    )

pub returns-clause-on : goal.returns-clause-on
returns-clause-on c = λ _ symbols live.
    let on = c.in_ok-step.ensures.ok symbols live in
    (on, false_not _ (sym c.if-is_dead.false ∙ c.is_dead.ensures c.args.sensitive _ on))
