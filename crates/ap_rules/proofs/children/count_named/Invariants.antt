use Rattle.std.proofs.Common.{◌≡◌, ◌≤◌, ◌+◌, length}
use Rattle.ap_rules.specs.Children.{children_in, size, count_named}
use Rattle.ap_rules.proofs.children.count_named.Given as goal

abbrev pub invariant-rest : goal.invariant-rest
invariant-rest l = record {
  counted : l.count + count_named l.name (children_in l.rest)
      ≡ count_named l.name (children_in l.parts);
  few : l.count + length l.rest ≤ length l.parts;
}

abbrev pub decreases-rest : goal.decreases-rest
decreases-rest l = size (children_in l.rest)
