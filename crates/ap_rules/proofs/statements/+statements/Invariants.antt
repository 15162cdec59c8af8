use Rattle.std.proofs.Common.{◌≡◌, ◌≤◌, ◌+◌, ◌*◌, ◌++◌, map}
use Rattle.ap_rules.specs.Children.{children_in, children_of, size}
use Rattle.ap_rules.specs.Scopes.{scope}
use Rattle.ap_rules.specs.Statements.{statements, whens}
use Rattle.ap_rules.specs.Views.{plain_statements, plain_when}
use Rattle.ap_rules.proofs.statements.+statements.Given as goal

abbrev pub decreases-statement : goal.decreases-statement
decreases-statement l = 2 * size (children_of l.node.now) + 1

abbrev pub decreases-when : goal.decreases-when
decreases-when l = 2 * size (children_of l.node.now) + 1

abbrev pub decreases-statements : goal.decreases-statements
decreases-statements l = 2 * size (children_in l.parts.now)

abbrev pub decreases-whens : goal.decreases-whens
decreases-whens l = 2 * size (children_in l.parts.now)

abbrev pub invariant-statements-rest : goal.invariant-statements-rest
invariant-statements-rest l = record {
  made : plain_statements l.made.items ++ statements (scope l.s) (children_in l.rest)
      ≡ statements (scope l.s) (children_in l.parts);
  smaller : size (children_in l.rest) ≤ size (children_in l.parts);
}

abbrev pub decreases-statements-rest : goal.decreases-statements-rest
decreases-statements-rest l = size (children_in l.rest)

abbrev pub invariant-whens-rest : goal.invariant-whens-rest
invariant-whens-rest l = record {
  made : map plain_when l.made.items ++ whens (scope l.s) (children_in l.rest)
      ≡ whens (scope l.s) (children_in l.parts);
  smaller : size (children_in l.rest) ≤ size (children_in l.parts);
}

abbrev pub decreases-whens-rest : goal.decreases-whens-rest
decreases-whens-rest l = size (children_in l.rest)
