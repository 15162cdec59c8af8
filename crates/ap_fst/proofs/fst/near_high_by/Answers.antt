use Rattle.std.proofs.Common.{arith}
use Rattle.std.proofs.lemmas.List.Sorted.{IsNonDecreasingBy-take}
use Rattle.std.specs.Option.{option_copied}
use Rattle.ap_fst.specs.Order.{left_place}
use Rattle.ap_fst.proofs.Listing.{rest_sorted, end_near, end_far}
use Rattle.ap_fst.proofs.fst.near_high_by.Goals as goal

pub high_by-high-requires : goal.high_by-high-requires
high_by-high-requires c =
    IsNonDecreasingBy-take (left_place c.args.state (option_copied c.args.left)) c.min-near.result
    c.args.edges.now c.requires

pub returns-then-high-near-clause-point : goal.returns-then-high-near-clause-point
returns-then-high-near-clause-point c =
    end_near (left_place c.args.state (option_copied c.args.left)) 1 c.args.edges.now
    c.min-near.result c.high_by-high.result c.requires (omega arith) (omega arith)
    c.high_by-high.ensures.point

pub high_by-requires : goal.high_by-requires
high_by-requires c = rest_sorted (left_place c.args.state (option_copied c.args.left))
    c.min-near.result c.args.edges.now c.requires

pub returns-clause-point : goal.returns-clause-point
returns-clause-point c =
    end_far (left_place c.args.state (option_copied c.args.left)) 1 c.args.edges.now
    c.min-near.result c.high_by-high.result c.high_by.result (omega arith)
    c.high_by-high.ensures.point c.high_by.ensures.point
