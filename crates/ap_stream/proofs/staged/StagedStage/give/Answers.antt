use Rattle.ap_stream.proofs.Stop as lemmas
use Rattle.ap_stream.proofs.staged.StagedStage.give.Goals as goal

pub returns-clause-rest : goal.returns-clause-rest
returns-clause-rest g c =
    lemmas.rest_at_give g.H.Handler.finished g.H.Handler.held g.H.Handler.dialect g.H.Handler.work _
    _ c.self.inside.reader _ _ _ _ c.self.view_is _
