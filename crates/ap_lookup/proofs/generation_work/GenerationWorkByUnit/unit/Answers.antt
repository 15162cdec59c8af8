use Rattle.ap_lookup.proofs.generation_work.GenerationWorkByUnit.unit.Goals as goal

pub returns-clause-wrote : goal.returns-clause-wrote
returns-clause-wrote c = λ ok.
    let k = c.unit.ensures.wrote ok in (
      k.0,
      k.1,
      rw (← c.self.view_is) (record { short = k.2.short; gives = k.2.gives }),
    )
