use Rattle.std.proofs.Common.{rules}
use Rattle.std.proofs.lemmas.List.Sorted.{IsNonDecreasingBy-from_sort_by_key}
use Rattle.ap_fst.specs.Graphs.{arc_from}
use Rattle.ap_fst.proofs.graph.sort_arcs.Goals as goal

pub returns-clause-sorted : goal.returns-clause-sorted
returns-clause-sorted c =
    IsNonDecreasingBy-from_sort_by_key arc_from _ c.sort_unstable_by_key.ensures.sorted
    (λ a r q k. search rules)
