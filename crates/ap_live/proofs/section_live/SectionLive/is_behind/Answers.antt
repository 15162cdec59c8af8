use Rattle.std.proofs.Common.{◌<◌, arith}
use Rattle.std.proofs.lemmas.Bool.Decides.{nat_tests}
use Rattle.ap_live.proofs.SectionLives.{dead_behind, live_held}
use Rattle.ap_live.proofs.section_live.SectionLive.is_behind.Goals as goal

pub returns-in-Some-clause-over : goal.returns-in-Some-clause-over
returns-in-Some-clause-over c = λ t m seen is.
    let some : 0 < c.args.self.now.behind = grind (arith, nat_tests, t) in
    dead_behind m seen _ c.args.self.now.behind some
    (live_held m seen c.args.self.now.live c.args.self.now.behind _ c.in-Some.is is)
