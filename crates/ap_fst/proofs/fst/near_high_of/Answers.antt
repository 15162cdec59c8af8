use Rattle.std.proofs.Common.{arith}
use Rattle.ap_fst.specs.Machines.{edge_from}
use Rattle.ap_fst.proofs.Listing.{end_near, end_far}
use Rattle.ap_fst.proofs.fst.near_high_of.Goals as goal

pub returns-then-high-near-clause-point : goal.returns-then-high-near-clause-point
returns-then-high-near-clause-point c =
    end_near edge_from c.args.state c.args.edges.now c.min-near.result c.high_of-high.result
    c.requires (omega arith) (omega arith) c.high_of-high.ensures.point

pub returns-clause-point : goal.returns-clause-point
returns-clause-point c =
    end_far edge_from c.args.state c.args.edges.now c.min-near.result c.high_of-high.result
    c.high_of.result (omega arith) c.high_of-high.ensures.point c.high_of.ensures.point
