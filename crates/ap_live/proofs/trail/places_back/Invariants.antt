use Rattle.std.proofs.Common.{List, ℕ}
use Rattle.ap_live.specs.Trails.{LeadsBack}
use Rattle.ap_live.proofs.TrailLaws.{IsRest}
use Rattle.ap_live.proofs.trail.places_back.Given as goal

abbrev pub invariant-loop-at : goal.invariant-loop-at
invariant-loop-at l = (places : List ℕ) → LeadsBack l.nodes l.fn.at places →
    IsRest l.nodes l.at l.found.items places

abbrev pub decreases-loop-at : goal.decreases-loop-at
decreases-loop-at l = l.at
