use Rattle.ap_pipe.proofs.Running as running
use Rattle.ap_pipe.proofs.pipeline.Pipeline.nine_stages_hold.Goals as goal

pub returns-clause-each : goal.returns-clause-each
returns-clause-each g c =
    rw (← c.self.view_is) (running.each_largest g.S.Stage _ _ c.self.invariant.1)

pub returns-clause-nine : goal.returns-clause-nine
returns-clause-nine g c =
    rw (← c.self.view_is) (λ n. running.nine_largest g.S.Stage _ _ c.self.invariant.1 n)
