use Rattle.ap_fst.proofs.Listing.{in_permutation, from_permutation}
use Rattle.ap_live.proofs.least_ways.sort_items.Goals as goal

pub returns : goal.returns
returns c = λ x. (
  (λ i. from_permutation x c.args.items.now.items c.sort_unstable_by_key.new.self.items
      c.sort_unstable_by_key.ensures.permutation i),
  (λ i. in_permutation x c.args.items.now.items c.sort_unstable_by_key.new.self.items
      c.sort_unstable_by_key.ensures.permutation i),
)
