use Rattle.std.proofs.Common.{◌≡◌, ◌≤◌}
use Rattle.ap_rules.specs.Children.{children_in, size}
use Rattle.ap_rules.specs.Defining.{defined_in}
use Rattle.ap_rules.proofs.defined.+gather.Given as goal

abbrev pub decreases-gather : goal.decreases-gather
decreases-gather l = size (children_in l.parts.now)

abbrev pub invariant-rest : goal.invariant-rest
invariant-rest l = record {
  same : defined_in l.defined (children_in l.rest) ≡ defined_in l.fn.defined (children_in l.parts);
  smaller : size (children_in l.rest) ≤ size (children_in l.parts);
}

abbrev pub decreases-rest : goal.decreases-rest
decreases-rest l = size (children_in l.rest)
