use Rattle.std.proofs.Common.{arith, inl, inr}
use Rattle.std.proofs.lemmas.Option.{IfSome_then}
use Rattle.ap_live.proofs.Reached.{dead_states}
use Rattle.ap_live.proofs.SectionLives.{dead_behind, live_held, live_whole, nothing_held}
use Rattle.ap_live.proofs.section_live.SectionLive.states.Goals as goal

pub returns-in-None : goal.returns-in-None
returns-in-None c = λ m seen is.
    inl (nothing_held m seen c.args.self.now.live c.args.self.now.behind c.in-None.is is)

pub returns-then-self-gt0 : goal.returns-then-self-gt0
returns-then-self-gt0 c = λ m seen is. dead_states m seen _ c.new-then-self-gt0.ensures.items
    (dead_behind m seen c.in-Some.live c.args.self.now.behind
    (omega (arith, c.if-self-gt0.true))
    (live_held m seen c.args.self.now.live c.args.self.now.behind c.in-Some.live c.in-Some.is is))

pub returns-else-self-gt0 : goal.returns-else-self-gt0
returns-else-self-gt0 c = IfSome_then c.states.result c.states.ensures (λ states are m seen is.
    inr (are m seen (live_whole m seen c.in-Some.live c.args.self.now.behind
    (omega (arith, c.if-self-gt0.false))
    (live_held m seen c.args.self.now.live c.args.self.now.behind c.in-Some.live c.in-Some.is is))))
