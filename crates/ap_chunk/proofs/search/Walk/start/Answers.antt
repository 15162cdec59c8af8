use Rattle.std.proofs.Common.{refl}
use Rattle.ap_chunk.proofs.Walks.{at_start}
use Rattle.ap_chunk.proofs.search.Walk.start.Goals as goal

pub returns-clause-walk : goal.returns-clause-walk
returns-clause-walk c = λ parts.
    at_start parts c.in_ok-choosing.choosing c.better-best.result c.in_ok-choosing.ensures.stands
    (c.better-best.ensures.first refl c.in_ok-choosing.ensures.stands)
