use Rattle.ap_format.proofs.Moving.{des_at_give}
use Rattle.ap_format.proofs.deformat.DestxtStage.give.Goals as goal

pub returns-clause-rest : goal.returns-clause-rest
returns-clause-rest c = des_at_give _ _ _ _ _ _ c.self.view_is _
