use Rattle.ap_live.proofs.LiveLaws.{by_rows}
use Rattle.ap_live.proofs.ways.Ways.accepts.Goals as goal

pub returns-in-Some : goal.returns-in-Some
returns-in-Some c = λ seen held. c.accepts.ensures c.args.fst.now seen
    (by_rows c.args.fst.now seen c.args.self.now c.in-Some.rows c.in-Some.is held).0
