use Rattle.ap_fst.specs.Machines.{edge_from}
use Rattle.ap_fst.proofs.Listing.{key_range_on}
use Rattle.ap_fst.proofs.fst.range_of.Goals as goal

pub returns : goal.returns
returns c = key_range_on edge_from c.args.state c.args.edges.now c.low_of-low.result
    c.near_high_of-more.result c.low_of-low.ensures.point c.low_of-low.ensures.bound
    c.near_high_of-more.ensures.point c.near_high_of-more.ensures.bound
