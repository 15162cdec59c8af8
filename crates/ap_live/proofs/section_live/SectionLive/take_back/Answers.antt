use Rattle.std.proofs.Common.{arith, refl}
use Rattle.ap_live.proofs.SectionLives.{passed_back, taken_back}
use Rattle.ap_live.proofs.section_live.SectionLive.take_back.Goals as goal

pub returns-then-self-gt0-clause-back : goal.returns-then-self-gt0-clause-back
returns-then-self-gt0-clause-back c = λ _ m seen last is. passed_back m seen last
    c.args.self.now.live c.args.self.now.behind _ (omega (arith, c.if-self-gt0.true)) refl is

pub returns-in-Some-clause-back : goal.returns-in-Some-clause-back
returns-in-Some-clause-back c =
    λ _ m seen last is. taken_back m seen last c.len.result c.saturating_sub-before.result
    c.args.self.now.live c.in-Some.live _ c.args.self.now.behind c.in-Some.is
    (omega (arith, c.if-self-gt0.false)) c.len.ensures c.saturating_sub-before.ensures
    c.cut.ensures is
