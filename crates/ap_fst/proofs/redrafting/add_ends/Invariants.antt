use Rattle.std.proofs.Common.{take, map, ◌≡◌, ◌++◌}
use Rattle.ap_fst.specs.Redrafting.{end_move}
use Rattle.ap_fst.proofs.redrafting.add_ends.Given as goal

abbrev pub invariant-loop-state : goal.invariant-loop-state
invariant-loop-state l = l.moves.items ≡ l.fn.moves.items
    ++ map (end_move l.end) (take l.state-index l.finals)
