use Rattle.ap_fst.proofs.Listing.{in_at}
use Rattle.ap_fst.proofs.hubs.pass_hubs.Goals as goal

pub loop-arc-preserved : goal.loop-arc-preserved
loop-arc-preserved c = λ all f h. c.in_ok-pass_hub.ensures all
    (f _ (in_at c.args.arcs.now c.loop-arc.arc-index _ c.loop-arc-test.true))
    (c.loop-arc.invariant all f h)
