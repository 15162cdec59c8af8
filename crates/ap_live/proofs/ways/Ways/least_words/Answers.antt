use Rattle.std.proofs.lemmas.Result.{IfOk-weaker}
use Rattle.ap_live.proofs.LeastLaws.{all_hold}
use Rattle.ap_live.proofs.LiveLaws.{by_rows}
use Rattle.ap_live.proofs.ways.Ways.least_words.Goals as goal

pub returns-in-None : goal.returns-in-None
returns-in-None c = IfOk-weaker c.words.result _ _
    (λ words h outlined seen held. all_hold c.args.fst.now c.args.case seen words.items
    (h outlined seen held)) c.words.ensures.members

pub returns-in-Some : goal.returns-in-Some
returns-in-Some c = IfOk-weaker c.least_words.result _ _
    (λ words h outlined seen held. h seen
    (by_rows c.args.fst.now seen c.args.self.now c.in-Some.rows c.in-Some.is held).0)
    c.least_words.ensures
