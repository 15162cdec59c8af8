use Rattle.std.proofs.Common.{◌≡◌, ◌++◌, map, codes}
use Rattle.ap_rules.specs.Children.{children_in, size}
use Rattle.ap_rules.specs.Scopes.{scope}
use Rattle.ap_rules.specs.Pieces.{chunk_pieces}
use Rattle.ap_rules.specs.Views.{plain_chunk_piece}
use Rattle.ap_rules.proofs.pieces.chunk_pieces.Given as goal

abbrev pub invariant-rest : goal.invariant-rest
invariant-rest l = map (plain_chunk_piece) l.made.items
    ++ chunk_pieces (scope l.s) (children_in l.rest)
    ≡ chunk_pieces (scope l.s) (children_in l.parts)

abbrev pub decreases-rest : goal.decreases-rest
decreases-rest l = size (children_in l.rest)
