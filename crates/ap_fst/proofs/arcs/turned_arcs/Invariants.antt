use Rattle.std.proofs.Common.{take, map, ◌≡◌}
use Rattle.ap_fst.specs.Graphs.{backward}
use Rattle.ap_fst.proofs.arcs.turned_arcs.Given as goal

abbrev pub invariant-loop-edge : goal.invariant-loop-edge
invariant-loop-edge l = l.arcs.items ≡ map backward (take l.edge-index l.edges)
