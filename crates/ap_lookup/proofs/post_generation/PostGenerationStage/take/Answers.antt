use Rattle.ap_lookup.proofs.post_generation.PostGenerationStage.take.Goals as goal

pub returns-clause-front : goal.returns-clause-front
returns-clause-front c = rw (← c.self.view_is) c.take_copying.ensures.front
