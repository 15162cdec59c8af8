use Rattle.ap_format.proofs.Taken.{ret_at_give}
use Rattle.ap_format.proofs.reformat.RetxtStage.give.Goals as goal

pub returns-clause-rest : goal.returns-clause-rest
returns-clause-rest c = ret_at_give _ _ _ _ _ _ _ _ c.self.view_is _
