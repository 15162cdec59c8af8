use Rattle.ap_stream.proofs.Stop.{begins_from_nil}
use Rattle.ap_format.proofs.reformat.RetxtStage.take.Goals as goal

pub returns-in-Err-clause-front : goal.returns-in-Err-clause-front
returns-in-Err-clause-front c = λ _ x e. begins_from_nil _ _ c.clear-in-Err.ensures
