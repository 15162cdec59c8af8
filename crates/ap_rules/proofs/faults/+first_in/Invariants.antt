use Rattle.std.proofs.Common.{◌≡◌, ◌≤◌}
use Rattle.ap_rules.specs.Children.{children_in, size}
use Rattle.ap_rules.specs.Defining.{defined_in}
use Rattle.ap_rules.specs.Faults.{first_in}
use Rattle.ap_rules.specs.Walking.{around}
use Rattle.ap_rules.proofs.faults.+first_in.Given as goal

abbrev pub decreases-first_in : goal.decreases-first_in
decreases-first_in l = size (children_in l.parts.now)

abbrev pub invariant-rest : goal.invariant-rest
invariant-rest l = record {
  first : first_in (around l.a) l.above (children_in l.rest)
      ≡ first_in (around l.a) l.fn.above (children_in l.parts);
  after : defined_in l.above (children_in l.rest) ≡ defined_in l.fn.above (children_in l.parts);
  smaller : size (children_in l.rest) ≤ size (children_in l.parts);
}

abbrev pub decreases-rest : goal.decreases-rest
decreases-rest l = size (children_in l.rest)
