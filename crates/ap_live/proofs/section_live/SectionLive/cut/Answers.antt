use Rattle.std.proofs.Common.{arith}
use Rattle.ap_live.proofs.SectionLives.{cut_behind, cut_first, live_held}
use Rattle.ap_live.proofs.section_live.SectionLive.cut.Goals as goal

pub returns-then-len-first : goal.returns-then-len-first
returns-then-len-first c = λ m seen is. cut_first m seen c.len-first.result c.args.len
    c.in-Some.live c.cut.new.self c.args.self.now.behind c.len-first.ensures
    (omega (arith, c.if-len-first.true)) c.cut.ensures
    (live_held m seen c.args.self.now.live c.args.self.now.behind c.in-Some.live c.in-Some.is is)

pub returns-else-len-first : goal.returns-else-len-first
returns-else-len-first c = λ m seen is. cut_behind m seen c.len-first.result c.args.len
    c.in-Some.live c.args.self.now.behind c.min-self.result c.len-first.ensures
    (omega (arith, c.if-len-first.false)) c.min-self.ensures
    (live_held m seen c.args.self.now.live c.args.self.now.behind c.in-Some.live c.in-Some.is is)
