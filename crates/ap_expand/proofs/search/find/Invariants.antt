use Rattle.std.proofs.Common.{length}
use Rattle.ap_expand.specs.Places.{search_trace}
use Rattle.ap_expand.proofs.Steps.{Searching}
use Rattle.ap_expand.proofs.search.find.Given as goal

abbrev pub invariant-steps : goal.invariant-steps
invariant-steps l = Searching l.fn.search l.search l.line

abbrev pub decreases-steps : goal.decreases-steps
decreases-steps l = length (search_trace l.search)
