use Rattle.ap_fst.proofs.Listing.{in_at}
use Rattle.ap_fst.proofs.covering.is_entered.Goals as goal

pub returns-then-arc-state : goal.returns-then-arc-state
returns-then-arc-state c = λ t. record {
  arc = _;
  listed = in_at c.args.all.now c.loop-arc.arc-index _ c.loop-arc-test.true;
  to_is = c.if-arc-state.true;
}
