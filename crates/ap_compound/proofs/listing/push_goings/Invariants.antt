use Rattle.std.proofs.Common.{◌≡◌, ◌++◌, drop}
use Rattle.ap_compound.specs.Places.{goings}
use Rattle.ap_compound.proofs.listing.push_goings.Given as goal

abbrev pub invariant-loop-k : goal.invariant-loop-k
invariant-loop-k l = l.into.items ++ goings l.place l.next l.k (drop l.k l.behind)
    ≡ l.fn.into.items ++ goings l.place l.next 0 l.behind
