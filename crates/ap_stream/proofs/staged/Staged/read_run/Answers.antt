use Rattle.std.proofs.Common.{◌∙◌}
use Rattle.ap_stream.proofs.Stop.{take_on}
use Rattle.ap_stream.proofs.staged.Staged.read_run.Goals as goal

pub returns-clause-rest : goal.returns-clause-rest
returns-clause-rest g c = λ x e.
    rw (← take_on c.args.piece.now x c.in-Ok.first c.in-Ok-run.more)
    (c.in-Ok.ensures.rest _ e ∙ c.in-Ok-run.ensures.rest x e)
