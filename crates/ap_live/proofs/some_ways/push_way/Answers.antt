use Rattle.ap_live.proofs.SomeWays.{some_more}
use Rattle.ap_live.proofs.some_ways.push_way.Goals as goal

pub returns : goal.returns
returns c = some_more c.args.fst.now c.args.outline.now c.args.rows.now c.args.words.now.items
    c.push.new.self.items c.in-Some.word c.in_ok-push.ensures.items c.requires.some
    (rw c.in-Some.is at c.in_ok-word.ensures)
