use Rattle.ap_chunk.proofs.transfer.TransferStage.take.Goals as goal

pub returns-clause-cause : goal.returns-clause-cause
returns-clause-cause c = rw (← c.self.view_is) c.take.ensures.cause

pub returns-clause-front : goal.returns-clause-front
returns-clause-front c = rw (← c.self.view_is) c.take.ensures.front
