use Rattle.std.proofs.lemmas.List.Sorted.{IsPartitionPoint-from_clause, IsPartitionedBy-leb}
use Rattle.std.proofs.Common.{leb, rules}
use Rattle.ap_fst.specs.Machines.{edge_from}
use Rattle.ap_fst.proofs.fst.high_of.Goals as goal

pub returns-clause-point : goal.returns-clause-point
returns-clause-point c =
    IsPartitionPoint-from_clause (λ a. leb (edge_from a) c.args.state) c.args.edges.now
    c.partition_point.result c.partition_point.ensures.partitioned
    (IsPartitionedBy-leb edge_from c.args.edges.now c.args.state c.requires)
    (λ a r f' h. search rules)
