use Rattle.std.proofs.Common.{take, map, ◌≡◌}
use Rattle.ap_fst.specs.Graphs.{forward}
use Rattle.ap_fst.proofs.arcs.forward_arcs.Given as goal

abbrev pub invariant-loop-edge : goal.invariant-loop-edge
invariant-loop-edge l = l.arcs.items ≡ map forward (take l.edge-index l.edges)
