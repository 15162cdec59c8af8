use Rattle.std.proofs.Common.{take, map, ◌≡◌}
use Rattle.std.specs.List.{filter}
use Rattle.ap_fst.specs.Silence.{is_silent}
use Rattle.ap_fst.specs.Graphs.{forward}
use Rattle.ap_fst.proofs.arcs.silent_arcs.Given as goal

abbrev pub invariant-loop-edge : goal.invariant-loop-edge
invariant-loop-edge l = l.arcs.items ≡ map forward (filter is_silent (take l.edge-index l.edges))
