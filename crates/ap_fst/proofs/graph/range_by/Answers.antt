use Rattle.ap_fst.specs.Graphs.{arc_from}
use Rattle.ap_fst.proofs.Listing.{key_range}
use Rattle.ap_fst.proofs.graph.range_by.Goals as goal

pub returns : goal.returns
returns c = key_range arc_from c.args.state c.args.arcs.now c.low_by-low.result
    c.high_by-high.result c.low_by-low.ensures.point c.low_by-low.ensures.bound
    c.high_by-high.ensures.point c.high_by-high.ensures.bound
