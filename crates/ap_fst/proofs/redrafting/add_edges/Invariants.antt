use Rattle.std.proofs.Common.{take, map, ◌≡◌, ◌++◌}
use Rattle.ap_fst.specs.Redrafting.{edge_move}
use Rattle.ap_fst.proofs.redrafting.add_edges.Given as goal

abbrev pub invariant-loop-edge : goal.invariant-loop-edge
invariant-loop-edge l = l.moves.items ≡ l.fn.moves.items
    ++ map edge_move (take l.edge-index l.edges)
