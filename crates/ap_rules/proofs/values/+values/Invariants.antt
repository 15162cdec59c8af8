use Rattle.std.proofs.Common.{◌≡◌, ◌≤◌, ◌+◌, ◌*◌, ◌++◌}
use Rattle.ap_rules.specs.Children.{children_in, children_of, size}
use Rattle.ap_rules.specs.Scopes.{scope}
use Rattle.ap_rules.specs.Values.{values}
use Rattle.ap_rules.specs.Views.{plain_values}
use Rattle.ap_rules.proofs.values.+values.Given as goal

abbrev pub decreases-value : goal.decreases-value
decreases-value l = 2 * size (children_of l.node.now) + 1

abbrev pub decreases-values : goal.decreases-values
decreases-values l = 2 * size (children_in l.parts.now)

abbrev pub invariant-values-rest : goal.invariant-values-rest
invariant-values-rest l = record {
  made : plain_values l.made.items ++ values (scope l.s) l.content (children_in l.rest)
      ≡ values (scope l.s) l.content (children_in l.parts);
  smaller : size (children_in l.rest) ≤ size (children_in l.parts);
}

abbrev pub decreases-values-rest : goal.decreases-values-rest
decreases-values-rest l = size (children_in l.rest)
