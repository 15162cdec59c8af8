use Rattle.ap_lookup.proofs.generation_work.GenerationWorkHandler.push.Goals as goal

pub returns-clause-work : goal.returns-clause-work
returns-clause-work c = rw (← c.self.view_is) c.push.ensures.work
