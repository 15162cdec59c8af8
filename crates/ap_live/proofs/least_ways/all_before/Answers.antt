use Rattle.std.proofs.Common.{[], arith}
use Rattle.ap_live.proofs.Backing.{adds_item}
use Rattle.ap_live.proofs.LeastLaws.{back_all}
use Rattle.ap_live.proofs.least_ways.all_before.Goals as goal

pub loop-item-preserved : goal.loop-item-preserved
loop-item-preserved c = adds_item c.args.fst.now.edges c.args.silent c.args.links.now
    c.args.items.now c.loop-item.item-index c.item-item.result c.item-item.result []
    c.loop-item.found.items c.push_before.new.found.items c.loop-item-test.true c.item-item.is
    c.loop-item.invariant c.in_ok-push_before.ensures

pub returns : goal.returns
returns c = back_all c.args.fst.now.edges c.args.silent c.args.links.now c.args.items.now
    c.loop-item.found.items c.loop-item.item-index (omega (arith, c.loop-item-test.false))
    c.loop-item.invariant
