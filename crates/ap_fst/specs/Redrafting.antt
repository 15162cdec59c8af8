-- Of the inside: no public contract stands on this file.
use Rattle.std.specs.Prelude.{ℕ, ◌+◌, List, ◌∷◌, ◌++◌, None, Some, map}
use Rattle.ap_fst.specs.Machines.{Machine}
use Rattle.ap_fst.specs.declared.draft.Move.{Move}
use Rattle.ap_fst.specs.declared.label.Edge.{Edge}

-- an edge as a move
abbrev pub edge_move : Edge → Move
edge_move e = record { from = e.from; label = Some e.label; to = e.to }

-- the move from a final state to the end
abbrev pub end_move : ℕ → ℕ → Move
end_move end s = record { from = s; label = None; to = end }

-- the move from the start, which stands behind the states of the transducer
abbrev pub start_move : ℕ → Move
start_move start = record { from = start; label = None; to = 0 }

-- The moves of a draft of a transducer: its edges, and empty moves from a start and to an end
-- behind its states.
abbrev pub draft_moves : Machine → List Move
draft_moves m = (start_move m.states ∷ map edge_move m.edges)
    ++ map (end_move (m.states + 1)) m.finals
