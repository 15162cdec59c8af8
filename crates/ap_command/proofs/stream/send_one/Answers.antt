use Rattle.std.proofs.Common.{[], ◌∷◌, inr, refl}
use Rattle.ap_command.specs.Stream.{IsStage}
use Rattle.ap_command.proofs.Flowing.{if-ok, one-some, one-row-of}
use Rattle.ap_command.proofs.stream.send_one.Goals as goal

pub returns-in-Err-clause-flows : goal.returns-in-Err-clause-flows
returns-in-Err-clause-flows g c = λ s stage.
    inr (record { memory = refl; untaken = refl; unwritten = refl })

pub send-requires-clause-some : goal.send-requires-clause-some
send-requires-clause-some g c = one-some c.one_row.result c.in-Ok.stage c.one_row.ensures

pub returns-in-Ok-clause-flows : goal.returns-in-Ok-clause-flows
returns-in-Ok-clause-flows g c = λ s stage.
    c.send.ensures.flows (s ∷ [])
    (one-row-of s c.one_row.result c.in-Ok.stage
    (if-ok _ c.in-Ok.stage (IsStage s) c.in-Ok.is stage) c.one_row.ensures)
