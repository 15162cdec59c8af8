use Rattle.std.proofs.Common.{refl}
use Rattle.ap_chunk.proofs.Walks.{at_start}
use Rattle.ap_chunk.proofs.search.Walk.restart.Goals as goal

pub returns-clause-walk : goal.returns-clause-walk
returns-clause-walk c = λ parts. at_start parts c.begin.new.self c.better-self.result
    c.begin.ensures.stands (c.better-self.ensures.first refl c.begin.ensures.stands)
