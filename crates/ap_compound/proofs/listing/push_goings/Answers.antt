use Rattle.ap_compound.proofs.Steps.{goings_more, goings_end}
use Rattle.ap_compound.proofs.listing.push_goings.Goals as goal

pub loop-k-preserved : goal.loop-k-preserved
loop-k-preserved c = goings_more c.args.place.now c.args.next c.loop-k.k c.args.behind.now
    c.index-behind-k.result _ c.loop-k.into.items c.push_going.new.into.items
    c.loop-k-test.true c.index-behind-k.is c.in_ok-push_going.ensures c.loop-k.invariant

pub returns : goal.returns
returns c = goings_end c.args.place.now c.args.next c.loop-k.k c.args.behind.now _
    c.loop-k.into.items c.loop-k-test.false c.loop-k.invariant
