use Rattle.std.proofs.Common.{◌≡◌, ◌++◌, map, codes}
use Rattle.ap_rules.specs.Children.{children_in, size}
use Rattle.ap_rules.specs.Scopes.{scope}
use Rattle.ap_rules.specs.Pieces.{pieces}
use Rattle.ap_rules.specs.Views.{plain_piece}
use Rattle.ap_rules.proofs.pieces.pieces.Given as goal

abbrev pub invariant-rest : goal.invariant-rest
invariant-rest l = map (plain_piece) l.made.items ++ pieces (scope l.s) (children_in l.rest)
    ≡ pieces (scope l.s) (children_in l.parts)

abbrev pub decreases-rest : goal.decreases-rest
decreases-rest l = size (children_in l.rest)
