use Rattle.ap_live.proofs.LeastLaws.{left_in, none_thinned, one_thinned, thinned_in}
use Rattle.ap_live.proofs.least_ways.thin_back.Goals as goal

pub loop-item-init : goal.loop-item-init
loop-item-init c = none_thinned c.args.case c.args.items.items c.new-kept.result.items
    c.new-kept.ensures.items

pub keep-requires-clause-kept : goal.keep-requires-clause-kept
keep-requires-clause-kept c = λ x i. c.requires x
    (thinned_in c.args.case c.args.items.items c.loop-item.items.items c.loop-item.kept.items x
    c.loop-item.invariant i)

pub keep-requires-clause-item : goal.keep-requires-clause-item
keep-requires-clause-item c = c.requires c.in-Some.item
    (left_in c.args.case c.args.items.items c.loop-item.items.items c.pop.new.self.items
    c.loop-item.kept.items c.in-Some.item c.in-Some.ensures.items c.loop-item.invariant)

pub loop-item-preserved : goal.loop-item-preserved
loop-item-preserved c = one_thinned c.args.case c.args.items.items c.loop-item.items.items
    c.pop.new.self.items c.loop-item.kept.items c.keep.new.kept.items c.in-Some.item
    c.in-Some.ensures.items c.loop-item.invariant c.in_ok-keep.ensures.more
    c.in_ok-keep.ensures.only c.in_ok-keep.ensures.matched
