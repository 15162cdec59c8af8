use Rattle.std.proofs.Common.{◌≡◌, take}
use Rattle.ap_exec.proofs.lending.lend_template.Given as goal

abbrev pub invariant-loop-piece : goal.invariant-loop-piece
invariant-loop-piece l = l.made ≡ take l.piece-index l.pieces
