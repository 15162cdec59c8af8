use Rattle.std.proofs.Common.{◌-◌, ◌<◌, Ok, ap, arith, length, subst, sym, ◌∙◌}
use Rattle.ap_fst.specs.Lists.{IsIn}
use Rattle.ap_fst.proofs.Listing.{in_at}
use Rattle.ap_live.specs.declared.items.Item.{Item}
use Rattle.ap_live.proofs.least_ways.is_matched.Goals as goal

pub ends_no_later-requires-clause-a : goal.ends_no_later-requires-clause-a
ends_no_later-requires-clause-a c =
    let lt : c.loop-at.at - 1 < length c.args.items.now = omega arith in
    c.requires.items c.index-items-at.result
    (subst (λ (z : Item). IsIn z c.args.items.now) (sym c.index-items-at.is)
    (in_at c.args.items.now (c.loop-at.at - 1) c.index-items-at.result lt))

pub returns-then-branch : goal.returns-then-branch
returns-then-branch c = λ told.
    let lt : c.loop-at.at - 1 < length c.args.items.now = omega arith in
    record {
      item = c.index-items-at.result;
      listed = subst (λ (z : Item). IsIn z c.args.items.now) (sym c.index-items-at.is)
          (in_at c.args.items.now (c.loop-at.at - 1) c.index-items-at.result lt);
      same = c.if-other-item.false;
      ends = c.ends_no_later.ensures (c.in_ok-ends_no_later.was ∙ ap Ok c.if-branch.true);
    }
