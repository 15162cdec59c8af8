use Rattle.std.proofs.Common.{◌≡◌, ◌++◌}
use Rattle.ap_rules.specs.Children.{children_in, size}
use Rattle.ap_rules.specs.Scopes.{scope}
use Rattle.ap_rules.specs.Statements.{params}
use Rattle.ap_rules.proofs.statements.params.Given as goal

abbrev pub invariant-rest : goal.invariant-rest
invariant-rest l = l.made.items ++ params (scope l.s) (children_in l.rest)
    ≡ params (scope l.s) (children_in l.parts)

abbrev pub decreases-rest : goal.decreases-rest
decreases-rest l = size (children_in l.rest)
