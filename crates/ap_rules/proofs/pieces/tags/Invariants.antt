use Rattle.std.proofs.Common.{◌≡◌, ◌++◌, map, codes}
use Rattle.ap_rules.specs.Children.{children_in, size}
use Rattle.ap_rules.specs.Scopes.{scope}
use Rattle.ap_rules.specs.Pieces.{rows_named}
use Rattle.ap_rules.specs.Views.{plain_values}
use Rattle.ap_rules.proofs.pieces.tags.Given as goal

abbrev pub invariant-rest : goal.invariant-rest
invariant-rest l = map (λ t. plain_values t.values.items) l.made.items
    ++ rows_named (codes "tag") (scope l.s) (children_in l.rest)
    ≡ rows_named (codes "tag") (scope l.s) (children_in l.parts)

abbrev pub decreases-rest : goal.decreases-rest
decreases-rest l = size (children_in l.rest)
