use Rattle.ap_live.proofs.LiveLaws.{by_rows, by_trail}
use Rattle.ap_live.proofs.ways.Ways.reaches_none.Goals as goal

pub returns-in-Some : goal.returns-in-Some
returns-in-Some c = λ m seen held. c.reaches_none.ensures m seen
    (by_rows m seen c.args.self.now c.in-Some.rows c.in-Some.is held).0

pub returns-in-Some-trail : goal.returns-in-Some-trail
returns-in-Some-trail c = λ m seen held. c.reaches_none-in-Some-trail.ensures m.edges seen
    (by_trail m seen c.args.self.now c.in-Some-trail.trail c.in_default.is c.in-Some-trail.is held)
