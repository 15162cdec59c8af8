use Rattle.std.proofs.lemmas.List.{take_rest}
use Rattle.ap_analysis.proofs.Agreements.{like_more}
use Rattle.ap_analysis.proofs.agreement.Agreement.counted.Goals as goal

pub loop-count-preserved : goal.loop-count-preserved
loop-count-preserved c = λ is.
    like_more c.args.reads.now _ c.args.by c.loop-count.count c.index-reads-count.result
    c.index-behind-count.result c.mark_of_item.result c.mark_of_item-in-loop-count.result
    (take_rest c.args.reads.now c.args.by) c.if-count-behind.true c.mark_of_item.ensures
    c.mark_of_item-in-loop-count.ensures c.if-mark_of_item.false (c.loop-count.invariant is)
