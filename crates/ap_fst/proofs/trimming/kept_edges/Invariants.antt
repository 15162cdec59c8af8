use Rattle.std.proofs.Common.{take, ◌≡◌}
use Rattle.std.specs.List.{flat_map}
use Rattle.ap_fst.specs.Trimming.{kept_edge}
use Rattle.ap_fst.proofs.trimming.kept_edges.Given as goal

abbrev pub invariant-loop-edge : goal.invariant-loop-edge
invariant-loop-edge l = l.kept ≡ flat_map (kept_edge l.states) (take l.edge-index l.edges)
