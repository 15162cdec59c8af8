use Rattle.std.proofs.Common.{arith}
use Rattle.ap_fst.proofs.Coverings.{item_at, led_none, led_more, led_all}
use Rattle.ap_fst.proofs.covering.leads_of.Goals as goal

pub loop-next-init : goal.loop-next-init
loop-next-init c = led_none c.args.moves.now c.args.arcs.now.finish c.in_ok-leads.leads.items
    c.in_ok-leads.ensures.items

pub loop-next-preserved : goal.loop-next-preserved
loop-next-preserved c =
    led_more c.args.moves.now c.args.arcs.now.finish c.loop-next.next-index c.loop-next.leads.items
    c.push.new.self.items c.next-item.result c.lead.result
    (item_at c.args.moves.now c.loop-next.next-index c.next-item.result c.loop-next-test.true
    c.next-item.is) (c.lead.ensures c.args.moves.now c.requires) c.in_ok-push.ensures.items
    c.loop-next.invariant

pub returns : goal.returns
returns c = led_all c.args.moves.now c.args.arcs.now.finish c.loop-next.next-index
    c.loop-next.leads.items (omega arith) c.loop-next.invariant
