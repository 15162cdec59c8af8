use Rattle.std.proofs.Common.{rules}
use Rattle.ap_fst.proofs.Listing.{in_at}
use Rattle.ap_fst.proofs.covering.is_next_before_any.Goals as goal

pub returns-then-is_next : goal.returns-then-is_next
returns-then-is_next c = λ moves h t. record {
  arc = _;
  listed = in_at c.args.all.now c.loop-arc.arc-index _ c.loop-arc-test.true;
  quiet = c.is_next.ensures moves h (search rules);
}
