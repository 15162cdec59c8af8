use Rattle.std.proofs.lemmas.Bool.{both_ways}
use Rattle.ap_chunk.proofs.Walks.{dead_end}
use Rattle.ap_chunk.proofs.search.Walk.is_live.Goals as goal

pub returns-clause-live : goal.returns-clause-live
returns-clause-live c =
    λ e parts is. record { walked = is; live = (c.goes_on.ensures is.units is.stands).0 e }

pub returns-clause-dead : goal.returns-clause-dead
returns-clause-dead c = λ e parts is. dead_end parts c.args.self.now is
    (λ live. both_ways c.goes_on.result e ((c.goes_on.ensures is.units is.stands).1 live))
