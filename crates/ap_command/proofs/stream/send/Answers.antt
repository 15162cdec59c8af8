use Rattle.std.proofs.Common.{inl, inr, refl}
use Rattle.ap_command.specs.Stream.{IsRow}
use Rattle.ap_command.proofs.Flowing.{if-ok}
use Rattle.ap_command.proofs.stream.send.Goals as goal

pub returns-in-Err-clause-flows : goal.returns-in-Err-clause-flows
returns-in-Err-clause-flows g c = λ stages row.
    inr (record { memory = refl; untaken = refl; unwritten = refl })

pub returns-in-Ok-clause-flows : goal.returns-in-Ok-clause-flows
returns-in-Ok-clause-flows g c = λ stages row.
    inl (c.pass.ensures.flows stages (if-ok _ c.in-Ok.row (IsRow stages) c.in-Ok.is row))
