use Rattle.std.proofs.Common.{◌≡◌, ◌∙◌, arith, nat_lt, true}
use Rattle.std.proofs.lemmas.Bool.Decides.{nat_tests}
use Rattle.ap_live.proofs.SectionLives.{dead_behind, live_held, unviable}
use Rattle.ap_live.proofs.section_live.SectionLive.is_dead.Goals as goal

pub returns-then-self-gt0 : goal.returns-then-self-gt0
returns-then-self-gt0 c = λ m seen section is.
    let some : nat_lt 0 c.args.self.now.behind ≡ true =
    grind (arith, nat_tests, c.if-self-gt0.true) in
    some ∙ unviable m seen section (dead_behind m seen c.in-Some.live c.args.self.now.behind
    (omega (arith, c.if-self-gt0.true))
    (live_held m seen c.args.self.now.live c.args.self.now.behind c.in-Some.live c.in-Some.is is))
