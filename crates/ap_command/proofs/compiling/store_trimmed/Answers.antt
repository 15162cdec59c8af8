use Rattle.ap_command.proofs.compiling.store_trimmed.Goals as goal

pub returns-in-Ok-clause-stored : goal.returns-in-Ok-clause-stored
returns-in-Ok-clause-stored g c =
    λ making h. c.store_compiled.ensures.stored making (h c.in-Ok.trimmed c.in-Ok.ensures)
