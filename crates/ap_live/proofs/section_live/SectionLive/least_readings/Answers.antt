use Rattle.std.proofs.Common.{ℕ, List, arith, subst}
use Rattle.std.proofs.lemmas.Result.{IfOk-weaker}
use Rattle.ap_fst.specs.Lists.{IsIn}
use Rattle.ap_live.proofs.LeastLaws.{none_hold}
use Rattle.ap_live.proofs.LiveLaws.{output_reaches}
use Rattle.ap_live.proofs.SectionLives.{dead_behind, live_held, live_whole, nothing_held}
use Rattle.ap_live.proofs.section_live.SectionLive.least_readings.Goals as goal

pub returns-in-None : goal.returns-in-None
returns-in-None c = λ seen is. none_hold c.args.fst.now c.args.case seen c.new.result.items
    c.new.ensures.items (λ w o. elim (subst (λ (z : List ℕ). IsIn o.accepted.last z)
    (nothing_held c.args.fst.now seen c.args.self.now.live c.args.self.now.behind c.in-None.is is)
    o.accepted.final) [ ])

pub returns-then-self-gt0 : goal.returns-then-self-gt0
returns-then-self-gt0 c = λ seen is. none_hold c.args.fst.now c.args.case seen
    c.new-then-self-gt0.result.items c.new-then-self-gt0.ensures.items
    (λ w o. dead_behind c.args.fst.now seen c.in-Some.live c.args.self.now.behind
    (omega (arith, c.if-self-gt0.true))
    (live_held c.args.fst.now seen c.args.self.now.live c.args.self.now.behind c.in-Some.live
    c.in-Some.is is) o.accepted.last (output_reaches c.args.fst.now seen w o))

pub returns-else-self-gt0 : goal.returns-else-self-gt0
returns-else-self-gt0 c = IfOk-weaker c.least_words.result _ _
    (λ words h seen is. h seen (live_whole c.args.fst.now seen c.in-Some.live
    c.args.self.now.behind (omega (arith, c.if-self-gt0.false))
    (live_held c.args.fst.now seen c.args.self.now.live c.args.self.now.behind c.in-Some.live
    c.in-Some.is is))) c.least_words.ensures
