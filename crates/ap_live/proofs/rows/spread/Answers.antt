use Rattle.std.proofs.Common.{get_or, refl}
use Rattle.ap_live.specs.Fitting.{pick_of}
use Rattle.ap_live.proofs.Spreading.{spread_item}
use Rattle.ap_live.proofs.rows.spread.Goals as goal

pub loop-from-preserved : goal.loop-from-preserved
loop-from-preserved c = λ is. spread_item c.args.fst.now.edges (pick_of c.args.pick) c.args.froms.now
    (get_or c.args.froms.now c.loop-from.from-index 0) c.loop-from.from-index
    c.args.states.now.items c.args.links.now.items
    c.loop-from.states.items c.loop-from.links.items c.spread_from.new.states.items
    c.spread_from.new.links.items c.loop-from-test.true refl (c.loop-from.invariant is)
    (c.in_ok-spread_from.ensures is)
