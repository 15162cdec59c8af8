use Rattle.std.proofs.Common.{arith, rules}
use Rattle.ap_fst.specs.Machines.{edge_from}
use Rattle.ap_fst.proofs.Listing.{low_from}
use Rattle.ap_fst.proofs.fst.is_low.Goals as goal

pub returns : goal.returns
returns c = λ t. low_from edge_from c.args.state c.args.edges.now c.args.at c.requires (omega arith)
    (λ d pos. c.is_below.ensures (search rules) pos d) (λ d lt. c.is_above.ensures t lt d)
