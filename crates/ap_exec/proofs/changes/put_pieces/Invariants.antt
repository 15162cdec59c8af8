use Rattle.std.proofs.Common.{◌≡◌, drop, map}
use Rattle.ap_rules.specs.Views.{plain_piece}
use Rattle.ap_exec.specs.Running.{outs}
use Rattle.ap_exec.specs.States.{run_state, definitions}
use Rattle.ap_exec.proofs.changes.put_pieces.Given as goal

abbrev pub invariant-pieces : goal.invariant-pieces
invariant-pieces l = outs (definitions l.world) l.positions (map plain_piece (drop l.piece-index
    l.pieces))
    (run_state l.world l.state) ≡ outs (definitions l.world) l.positions (map plain_piece l.pieces)
    (run_state l.world l.initial.state)
