use Rattle.std.proofs.lemmas.Option.{IfSome_then}
use Rattle.ap_live.proofs.LiveLaws.{by_rows, by_trail}
use Rattle.ap_live.proofs.ways.Ways.states.Goals as goal

pub returns-in-Some : goal.returns-in-Some
returns-in-Some c = IfSome_then c.states.result c.states.ensures (λ states are m seen held.
    are m seen (by_rows m seen c.args.self.now c.in-Some.rows c.in-Some.is held).0)

pub returns-in-Some-trail : goal.returns-in-Some-trail
returns-in-Some-trail c = IfSome_then c.states-in-Some-trail.result c.states-in-Some-trail.ensures
    (λ states are m seen held. are m.edges seen
    (by_trail m seen c.args.self.now c.in-Some-trail.trail c.in_default.is c.in-Some-trail.is held))
