use Rattle.std.proofs.lemmas.List.Sorted.{IsPartitionPoint-from_clause, IsPartitionedBy-ltb}
use Rattle.std.proofs.Common.{ltb, rules}
use Rattle.ap_live.specs.Spreads.{arrival_to}
use Rattle.ap_live.proofs.arrivals.low_of.Goals as goal

pub returns-clause-point : goal.returns-clause-point
returns-clause-point c =
    IsPartitionPoint-from_clause (λ a. ltb (arrival_to a) c.args.state) c.args.arrivals.now
    c.partition_point.result c.partition_point.ensures.partitioned
    (IsPartitionedBy-ltb arrival_to c.args.arrivals.now c.args.state c.requires)
    (λ a r f' h. search rules)
