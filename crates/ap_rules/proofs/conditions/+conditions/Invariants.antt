use Rattle.std.proofs.Common.{◌≡◌, ◌≤◌, ◌+◌, ◌*◌, ◌++◌}
use Rattle.ap_rules.specs.Children.{children_in, children_of, size}
use Rattle.ap_rules.specs.Scopes.{scope}
use Rattle.ap_rules.specs.Conditions.{conditions}
use Rattle.ap_rules.specs.Views.{plain_conditions}
use Rattle.ap_rules.proofs.conditions.+conditions.Given as goal

abbrev pub decreases-condition : goal.decreases-condition
decreases-condition l = 2 * size (children_of l.node.now) + 1

abbrev pub decreases-conditions : goal.decreases-conditions
decreases-conditions l = 2 * size (children_in l.parts.now)

abbrev pub invariant-conditions-rest : goal.invariant-conditions-rest
invariant-conditions-rest l = record {
  made : plain_conditions l.made.items ++ conditions (scope l.s) (children_in l.rest)
      ≡ conditions (scope l.s) (children_in l.parts);
  smaller : size (children_in l.rest) ≤ size (children_in l.parts);
}

abbrev pub decreases-conditions-rest : goal.decreases-conditions-rest
decreases-conditions-rest l = size (children_in l.rest)
