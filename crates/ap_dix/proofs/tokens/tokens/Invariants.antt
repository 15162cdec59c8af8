use Rattle.std.proofs.Common.{◌≡◌, [], drop, Some}
use Rattle.ap_dix.specs.Machines.{telling_step, outside, run}
use Rattle.ap_dix.specs.Views.{telling_of}
use Rattle.ap_dix.proofs.tokens.tokens.Given as goal

abbrev pub invariant-pieces : goal.invariant-pieces
invariant-pieces l = run telling_step (Some (telling_of l.telling)) (drop l.piece-index l.pieces)
    ≡ run telling_step (Some (outside [])) l.pieces
