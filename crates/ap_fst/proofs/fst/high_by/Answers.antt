use Rattle.std.proofs.lemmas.List.Sorted.{IsPartitionPoint-from_clause, IsPartitionedBy-leb}
use Rattle.std.proofs.Common.{leb, rules}
use Rattle.std.specs.Option.{option_copied}
use Rattle.ap_fst.specs.Order.{left_place}
use Rattle.ap_fst.proofs.fst.high_by.Goals as goal

pub returns-clause-point : goal.returns-clause-point
returns-clause-point c =
    IsPartitionPoint-from_clause
    (λ a. leb (left_place c.args.state (option_copied c.args.left) a) 1) c.args.edges.now
    c.partition_point.result c.partition_point.ensures.partitioned
    (IsPartitionedBy-leb (left_place c.args.state (option_copied c.args.left)) c.args.edges.now 1
    c.requires) (λ a r f' h. search rules)
