use Rattle.std.specs.Option.{option_copied}
use Rattle.ap_fst.specs.Order.{left_place}
use Rattle.ap_fst.proofs.Listing.{rest_sorted, key_range_on}
use Rattle.ap_fst.proofs.fst.range_by.Goals as goal

pub near_high_by-more-requires : goal.near_high_by-more-requires
near_high_by-more-requires c =
    rest_sorted (left_place c.args.state (option_copied c.args.left)) c.low_by-low.result
    c.args.edges.now c.requires

pub returns : goal.returns
returns c = key_range_on (left_place c.args.state (option_copied c.args.left)) 1 c.args.edges.now
    c.low_by-low.result c.near_high_by-more.result c.low_by-low.ensures.point
    c.low_by-low.ensures.bound c.near_high_by-more.ensures.point c.near_high_by-more.ensures.bound
