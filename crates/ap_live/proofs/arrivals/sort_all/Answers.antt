use Rattle.std.proofs.Common.{rules}
use Rattle.std.proofs.lemmas.List.Sorted.{IsNonDecreasingBy-from_sort_by_key}
use Rattle.ap_fst.proofs.Listing.{in_permutation, from_permutation}
use Rattle.ap_live.specs.Spreads.{arrival_to}
use Rattle.ap_live.proofs.arrivals.sort_all.Goals as goal

pub returns-clause-members : goal.returns-clause-members
returns-clause-members c = λ a. (
  (λ i. from_permutation a c.args.arrivals.now.items c.sort_unstable_by_key.new.self.items
      c.sort_unstable_by_key.ensures.permutation i),
  (λ i. in_permutation a c.args.arrivals.now.items c.sort_unstable_by_key.new.self.items
      c.sort_unstable_by_key.ensures.permutation i),
)

pub returns-clause-order : goal.returns-clause-order
returns-clause-order c =
    IsNonDecreasingBy-from_sort_by_key arrival_to _ c.sort_unstable_by_key.ensures.sorted
    (λ a r q k. search rules)
