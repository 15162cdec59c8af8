use Rattle.std.proofs.Common.{◌-◌, length}
use Rattle.ap_lookup.specs.PostSearching.{IsSearch}
use Rattle.ap_lookup.proofs.post_search.Search.step_on.Given as goal

abbrev pub invariant-loop-self : goal.invariant-loop-self
invariant-loop-self l = IsSearch l.compiled l.sensitive l.reads l.self

abbrev pub decreases-loop-self : goal.decreases-loop-self
decreases-loop-self l = length l.reads - length l.self.seen.items
