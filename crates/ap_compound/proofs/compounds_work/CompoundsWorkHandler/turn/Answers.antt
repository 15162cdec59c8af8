use Rattle.ap_compound.proofs.compounds_work.CompoundsWorkHandler.turn.Goals as goal

pub returns-clause-wrote : goal.returns-clause-wrote
returns-clause-wrote c = rw (← c.self.view_is) c.turn.ensures.wrote
