use Rattle.std.proofs.Common.{rules, refl}
use Rattle.ap_fst.proofs.Listing.{in_at}
use Rattle.ap_fst.proofs.covering.first_covering.Goals as goal

pub returns-then-covers : goal.returns-then-covers
returns-then-covers c = λ moves h. record {
  arc = _;
  listed = in_at c.args.all.now c.loop-arc.arc-index _ c.loop-arc-test.true;
  to_is = refl;
  covers = c.covers.ensures moves h (search rules);
}
