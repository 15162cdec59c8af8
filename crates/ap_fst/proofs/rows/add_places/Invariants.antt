use Rattle.std.proofs.Common.{take, map, ◌≡◌, ◌++◌}
use Rattle.ap_fst.specs.Graphs.{arc_to}
use Rattle.ap_fst.proofs.rows.add_places.Given as goal

abbrev pub invariant-loop-arc : goal.invariant-loop-arc
invariant-loop-arc l = l.places.items ≡ l.fn.places.items
    ++ map arc_to (take l.arc-index l.arcs)
