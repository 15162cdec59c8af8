use Rattle.std.proofs.Common.{◌≡◌, sym, ◌∙◌, arith, nat_eq, false}
use Rattle.std.proofs.lemmas.Bool.Decides.{nat_tests}
use Rattle.ap_live.proofs.NoFinals.{no_output}
use Rattle.ap_live.proofs.SectionLives.{dead_behind, live_held, nothing_held, unread}
use Rattle.ap_live.proofs.section_live.SectionLive.reads.Goals as goal

pub returns-in-None : goal.returns-in-None
returns-in-None c = λ seen whole is. sym
    (no_output c.args.fst.now
    (nothing_held c.args.fst.now seen c.args.self.now.live c.args.self.now.behind c.in-None.is is)
    seen)

pub returns-else-self-eq0 : goal.returns-else-self-eq0
returns-else-self-eq0 c = λ seen whole is.
    let some : nat_eq c.args.self.now.behind 0 ≡ false =
    grind (arith, nat_tests, c.if-self-eq0.false) in
    some ∙ unread c.args.fst.now seen c.states.ensures.sound whole
    (dead_behind c.args.fst.now seen c.in-Some.live c.args.self.now.behind
    (omega (arith, c.if-self-eq0.false))
    (live_held c.args.fst.now seen c.args.self.now.live c.args.self.now.behind c.in-Some.live
    c.in-Some.is is))
