use Rattle.std.proofs.Common.{◌≡◌, ◌++◌, [], map}
use Rattle.ap_rules.specs.Children.{children_in, size}
use Rattle.ap_rules.specs.Scopes.{scope}
use Rattle.ap_rules.specs.Sections.{rules}
use Rattle.ap_rules.specs.Views.{plain_macro, plain_rule}
use Rattle.ap_rules.proofs.sections.rules.Given as goal

abbrev pub invariant-rest : goal.invariant-rest
invariant-rest l = map plain_rule l.made.items ++ rules (scope l.s) (children_in l.rest)
    ≡ rules (scope l.s) (children_in l.parts)

abbrev pub decreases-rest : goal.decreases-rest
decreases-rest l = size (children_in l.rest)
