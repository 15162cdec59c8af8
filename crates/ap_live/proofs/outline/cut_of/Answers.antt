use Rattle.ap_live.proofs.Outlining.{cut_within}
use Rattle.ap_live.proofs.outline.cut_of.Goals as goal

pub returns : goal.returns
returns c = λ rises. cut_within c.args.entries.now c.args.first c.args.last c.loop-middle.low
    c.loop-middle.high c.args.code c.next_from.result c.loop-middle.invariant.from
    c.loop-middle.invariant.within (c.loop-middle.invariant.before rises)
    (c.loop-middle.invariant.behind rises) rises c.next_from.ensures
