use Rattle.ap_lookup.proofs.generation.GenerationStage.take.Goals as goal

pub returns-clause-front : goal.returns-clause-front
returns-clause-front c = rw (← c.self.view_is) c.take_units.ensures.front

pub returns-clause-cause : goal.returns-clause-cause
returns-clause-cause c = rw (← c.self.view_is) c.take_units.ensures.cause
