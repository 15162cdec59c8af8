use Rattle.std.proofs.Common.{rules}
use Rattle.ap_fst.specs.Machines.{edge_from}
use Rattle.ap_fst.proofs.Listing.{low_point}
use Rattle.ap_fst.proofs.fst.low_near.Goals as goal

pub returns-then-is_low-clause-point : goal.returns-then-is_low-clause-point
returns-then-is_low-clause-point c =
    low_point edge_from c.args.state c.args.edges.now c.args.guess (c.is_low.ensures (search rules))

pub returns-then-is_low-clause-bound : goal.returns-then-is_low-clause-bound
returns-then-is_low-clause-bound c = (c.is_low.ensures (search rules)).end
