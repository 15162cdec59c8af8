use Rattle.std.proofs.Common.{◌-◌, ◌^◌}
use Rattle.ap_fst.proofs.RowLaws.{IsSearching}
use Rattle.ap_fst.proofs.rows.found_places.Given as goal

abbrev pub invariant-search : goal.invariant-search
invariant-search l = IsSearching l.moves l.arcs.finish l.fn.state l.near l.places.items l.at

abbrev pub decreases-search : goal.decreases-search
decreases-search l = 2 ^ 64 - l.at
