use Rattle.std.proofs.Common.{List, Ok, ap, subst, sym, true, ◌∙◌}
use Rattle.ap_fst.specs.Lists.{IsIn}
use Rattle.ap_live.specs.Least.{IsMatched}
use Rattle.ap_live.specs.Tails.{IsBack}
use Rattle.ap_live.specs.declared.items.Item.{Item}
use Rattle.ap_live.proofs.Backing.{clean_back}
use Rattle.ap_live.proofs.LeastLaws.{rounds_clean, rounds_closed, rounds_first, rounds_more}
use Rattle.ap_live.proofs.least_ways.close_least.Goals as goal

pub loop-init : goal.loop-init
loop-init c = rounds_first c.args.fst.now c.args.links.now c.args.case c.args.items.items
    c.in_ok-kept.kept.items c.in_ok-kept.ensures

pub are_matched-requires-clause-items : goal.are_matched-requires-clause-items
are_matched-requires-clause-items c = λ x i. rounds_clean c.args.fst.now c.args.links.now
    c.args.case c.args.items.items c.loop.kept.items c.requires.writes c.requires.clean
    c.loop.invariant x (subst (λ (z : List Item). IsIn x z) c.as_slice-in-loop.ensures.value i)

pub are_matched-requires-clause-others : goal.are_matched-requires-clause-others
are_matched-requires-clause-others c = λ x i. clean_back c.args.fst.now true c.args.links.now
    c.as_slice.result.now c.in_ok-before.before.items c.requires.writes c.in_ok-before.ensures
    (λ y k. rounds_clean c.args.fst.now c.args.links.now c.args.case c.args.items.items
    c.loop.kept.items c.requires.writes c.requires.clean c.loop.invariant y
    (subst (λ (z : List Item). IsIn y z) c.as_slice.ensures.value k)) x
    (subst (λ (z : List Item). IsIn x z) c.as_slice-in-loop-2.ensures.value i)

pub returns-then-branch-clause-closes : goal.returns-then-branch-clause-closes
returns-then-branch-clause-closes c = rounds_closed c.args.fst.now c.args.links.now c.args.case
    c.args.items.items c.loop.kept.items c.in_ok-before.before.items c.loop.invariant
    (subst (λ (z : List Item). IsBack c.args.fst.now.edges true c.args.links.now z
    c.in_ok-before.before.items) c.as_slice.ensures.value c.in_ok-before.ensures)
    (λ x i. subst (λ (z : List Item). IsMatched c.args.case z x) c.as_slice-in-loop.ensures.value
    (c.are_matched.ensures (c.in_ok-are_matched.was ∙ ap Ok c.if-branch.true) x
    (subst (λ (z : List Item). IsIn x z) (sym c.as_slice-in-loop-2.ensures.value) i)))

pub returns-then-branch-clause-clean : goal.returns-then-branch-clause-clean
returns-then-branch-clause-clean c = rounds_clean c.args.fst.now c.args.links.now c.args.case
    c.args.items.items c.loop.kept.items c.requires.writes c.requires.clean c.loop.invariant

pub thin_both-requires-clause-items : goal.thin_both-requires-clause-items
thin_both-requires-clause-items c = rounds_clean c.args.fst.now c.args.links.now c.args.case
    c.args.items.items c.loop.kept.items c.requires.writes c.requires.clean c.loop.invariant

pub thin_both-requires-clause-others : goal.thin_both-requires-clause-others
thin_both-requires-clause-others c = clean_back c.args.fst.now true c.args.links.now
    c.as_slice.result.now c.in_ok-before.before.items c.requires.writes c.in_ok-before.ensures
    (λ y k. rounds_clean c.args.fst.now c.args.links.now c.args.case c.args.items.items
    c.loop.kept.items c.requires.writes c.requires.clean c.loop.invariant y
    (subst (λ (z : List Item). IsIn y z) c.as_slice.ensures.value k))

pub loop-preserved : goal.loop-preserved
loop-preserved c = rounds_more c.args.fst.now c.args.links.now c.args.case
    c.args.items.items c.loop.kept.items c.in_ok-before.before.items c.in_ok-kept-2.kept.items
    c.loop.invariant
    (subst (λ (z : List Item). IsBack c.args.fst.now.edges true c.args.links.now z
    c.in_ok-before.before.items) c.as_slice.ensures.value c.in_ok-before.ensures)
    c.in_ok-kept-2.ensures
