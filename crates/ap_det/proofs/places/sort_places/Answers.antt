use Rattle.std.proofs.Common.{rules, ◌≡◌, ℕ}
use Rattle.std.specs.Ordering.{is_lt}
use Rattle.std.proofs.lemmas.Fn.{always_returns_same}
use Rattle.std.proofs.lemmas.List.Sorted.{ranks_by}
use Rattle.ap_det.specs.Exits.{place_cmp}
use Rattle.ap_det.proofs.Sorting.{place_total, places_rise}
use Rattle.ap_det.proofs.places.sort_places.Goals as goal

pub returns-clause-rises : goal.returns-clause-rises
returns-clause-rises c = places_rise c.args.edges.now c.sort_unstable_by.new.self.items
    (c.sort_unstable_by.ensures.sorted (λ a b. is_lt (place_cmp c.args.edges.now a b))
    (ranks_by (place_total c.args.edges.now) (λ (p : ℕ). p))
    (always_returns_same _ (λ a r. is_lt r ≡ is_lt (place_cmp c.args.edges.now a.0.now a.1.0.now)) _
    (λ a r f' k. search rules)))
