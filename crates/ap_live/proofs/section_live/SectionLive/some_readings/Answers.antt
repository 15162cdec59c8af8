use Rattle.std.proofs.Common.{List, arith, subst}
use Rattle.std.proofs.lemmas.Result.{IfOk-weaker}
use Rattle.ap_symbol.specs.declared.symbol.Symbol.{Symbol}
use Rattle.ap_fst.specs.Lists.{IsIn}
use Rattle.ap_live.proofs.SectionLives.{live_held, live_whole}
use Rattle.ap_live.proofs.section_live.SectionLive.some_readings.Goals as goal

pub returns-in-None : goal.returns-in-None
returns-in-None c = λ seen is w i.
    elim (subst (λ (z : List (List Symbol)). IsIn w z) c.new.ensures.items i) [ ]

pub returns-then-self-gt0 : goal.returns-then-self-gt0
returns-then-self-gt0 c = λ seen is w i.
    elim (subst (λ (z : List (List Symbol)). IsIn w z) c.new-then-self-gt0.ensures.items i) [ ]

pub returns-else-self-gt0 : goal.returns-else-self-gt0
returns-else-self-gt0 c = IfOk-weaker c.some_words.result _ _
    (λ words h seen is. h seen (live_whole c.args.fst.now seen c.in-Some.live
    c.args.self.now.behind (omega (arith, c.if-self-gt0.false))
    (live_held c.args.fst.now seen c.args.self.now.live c.args.self.now.behind c.in-Some.live
    c.in-Some.is is))) c.some_words.ensures
