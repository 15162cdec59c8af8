use Rattle.ap_fst.proofs.Listing.{key_range}
use Rattle.ap_live.specs.Spreads.{arrival_to}
use Rattle.ap_live.proofs.arrivals.range_of.Goals as goal

pub returns : goal.returns
returns c = key_range arrival_to c.args.state c.args.arrivals.now c.low_of-low.result
    c.high_of-high.result c.low_of-low.ensures.point c.low_of-low.ensures.bound
    c.high_of-high.ensures.point c.high_of-high.ensures.bound
