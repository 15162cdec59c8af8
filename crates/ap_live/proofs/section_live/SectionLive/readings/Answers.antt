use Rattle.std.proofs.Common.{sym, ◌∙◌, arith}
use Rattle.ap_live.proofs.NoFinals.{no_outputs}
use Rattle.ap_live.proofs.SectionLives.{dead_behind, live_held, no_reading, nothing_held}
use Rattle.ap_live.proofs.section_live.SectionLive.readings.Goals as goal

pub returns-in-None : goal.returns-in-None
returns-in-None c = λ seen is. c.new.ensures
    ∙ sym (no_outputs c.args.fst.now
    (nothing_held c.args.fst.now seen c.args.self.now.live c.args.self.now.behind c.in-None.is is)
    seen)

pub returns-then-self-gt0 : goal.returns-then-self-gt0
returns-then-self-gt0 c = λ seen is. c.new-then-self-gt0.ensures
    ∙ no_reading c.args.fst.now seen c.states.ensures.sound c.requires.no_cycle
    (dead_behind c.args.fst.now seen c.in-Some.live c.args.self.now.behind
    (omega (arith, c.if-self-gt0.true))
    (live_held c.args.fst.now seen c.args.self.now.live c.args.self.now.behind c.in-Some.live
    c.in-Some.is is))
