use Rattle.std.proofs.Common.{List, subst, rules}
use Rattle.std.specs.List.Sorted.{IsPermutation}
use Rattle.std.proofs.lemmas.List.Sorted.{IsNonDecreasingBy-from_sort_by_key}
use Rattle.ap_dix.specs.declared.expr.Range.{Range}
use Rattle.ap_compile.specs.Forming.{range_first}
use Rattle.ap_compile.proofs.Spanning.{spans_through}
use Rattle.ap_compile.proofs.expressions.sorted_ranges.Goals as goal

pub returns-clause-sorted : goal.returns-clause-sorted
returns-clause-sorted c =
    IsNonDecreasingBy-from_sort_by_key range_first _ c.sort_unstable_by_key.ensures.sorted
    (λ a r q k. search rules)

pub returns-clause-same : goal.returns-clause-same
returns-clause-same c = spans_through c.args.ranges.now c.sort_unstable_by_key.new.self.items
    (subst (λ (z : List Range). IsPermutation z c.sort_unstable_by_key.new.self.items)
    c.in_ok-sorted.ensures c.sort_unstable_by_key.ensures.permutation)
