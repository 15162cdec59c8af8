use Rattle.std.proofs.Common.{◌≡◌, ◌++◌, drop, List}
use Rattle.ap_exec.specs.Filling.{Mark, marks}
use Rattle.ap_exec.specs.FillingParts.{goes_on}
use Rattle.ap_exec.proofs.filling.put_pieces.Given as goal

abbrev pub invariant-pieces : goal.invariant-pieces
invariant-pieces l = (more : List Mark) →
    goes_on l.state (marks (drop l.piece-index l.pieces) ++ more)
    ≡ goes_on l.initial.state (marks l.pieces ++ more)
