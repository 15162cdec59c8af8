use Rattle.ap_compound.proofs.compounds_work.CompoundsWorkHandler.push.Goals as goal

pub returns-clause-work : goal.returns-clause-work
returns-clause-work c = rw (← c.self.view_is) c.push.ensures.work
