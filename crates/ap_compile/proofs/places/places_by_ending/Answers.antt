use Rattle.ap_compile.proofs.Gathered.{places_sorted}
use Rattle.ap_compile.proofs.places.places_by_ending.Goals as goal

pub returns : goal.returns
returns c = places_sorted c.args.entries.now c.in_ok-places.places.items
    c.sort_unstable_by.new.self.items c.sort_unstable_by.ensures.permutation c.in_ok-places.ensures
