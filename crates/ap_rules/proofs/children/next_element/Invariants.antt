use Rattle.std.proofs.Common.{◌≡◌, ◌≤◌, length}
use Rattle.ap_rules.specs.Children.{children_in}
use Rattle.ap_rules.proofs.children.next_element.Given as goal

abbrev pub invariant-rest : goal.invariant-rest
invariant-rest l = record {
  same : children_in l.rest ≡ children_in l.parts;
  shorter : length l.rest ≤ length l.parts;
}

abbrev pub decreases-rest : goal.decreases-rest
decreases-rest l = length l.rest
