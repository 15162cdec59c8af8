use Rattle.std.proofs.Common.{Ok, ap, subst, sym, ◌∙◌}
use Rattle.ap_fst.specs.Lists.{IsIn}
use Rattle.ap_fst.proofs.Listing.{in_at}
use Rattle.ap_live.specs.declared.items.Item.{Item}
use Rattle.ap_live.proofs.LeastLaws.{in_first, matched_first, matched_one}
use Rattle.ap_live.proofs.least_ways.are_matched.Goals as goal

pub is_matched-requires-clause-items : goal.is_matched-requires-clause-items
is_matched-requires-clause-items c = λ x i. c.requires.items x
    (in_first c.args.items.now c.count_to-count.result x i)

pub is_matched-requires-clause-item : goal.is_matched-requires-clause-item
is_matched-requires-clause-item c = c.requires.others c.other-item.result
    (subst (λ (z : Item). IsIn z c.args.others.now) (sym c.other-item.is)
    (in_at c.args.others.now c.loop-other.other-index c.other-item.result c.loop-other-test.true))

pub loop-other-preserved : goal.loop-other-preserved
loop-other-preserved c = matched_one c.args.case c.args.items.now c.args.others.now
    c.loop-other.other-index c.other-item.result c.loop-other-test.true c.other-item.is
    c.loop-other.invariant
    (matched_first c.args.case c.args.items.now c.count_to-count.result c.other-item.result
    (c.is_matched.ensures (c.in_ok-is_matched.was ∙ ap Ok c.if-not-branch.false)))
