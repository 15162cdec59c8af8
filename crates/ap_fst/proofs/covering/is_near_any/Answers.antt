use Rattle.std.proofs.Common.{rules}
use Rattle.ap_fst.proofs.Listing.{in_at}
use Rattle.ap_fst.proofs.covering.is_near_any.Goals as goal

pub returns-then-is_near : goal.returns-then-is_near
returns-then-is_near c = λ moves h t. record {
  arc = _;
  listed = in_at c.args.all.now c.loop-arc.arc-index _ c.loop-arc-test.true;
  quiet = c.is_near.ensures moves h (search rules);
}
