use Rattle.std.proofs.Common.{arith}
use Rattle.ap_live.proofs.SectionLives.{dead_behind, dead_whole, live_held}
use Rattle.ap_live.proofs.section_live.SectionLive.is_over.Goals as goal

pub returns-then-self-gt0-clause-over : goal.returns-then-self-gt0-clause-over
returns-then-self-gt0-clause-over c = λ t m seen is.
    dead_behind m seen c.in-Some.live c.args.self.now.behind (omega (arith, c.if-self-gt0.true))
    (live_held m seen c.args.self.now.live c.args.self.now.behind c.in-Some.live c.in-Some.is is)

pub returns-else-self-gt0-clause-over : goal.returns-else-self-gt0-clause-over
returns-else-self-gt0-clause-over c = λ t m seen is.
    dead_whole m seen c.in-Some.live c.args.self.now.behind c.reaches_none.result
    (omega (arith, c.if-self-gt0.false)) t c.reaches_none.ensures
    (live_held m seen c.args.self.now.live c.args.self.now.behind c.in-Some.live c.in-Some.is is)
