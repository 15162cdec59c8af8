use Rattle.std.proofs.Common.{◌≡◌}
use Rattle.ap_rules.specs.Children.{children_in, size, within}
use Rattle.ap_rules.proofs.children.within.Given as goal

abbrev pub invariant-rest : goal.invariant-rest
invariant-rest l = within l.name (children_in l.rest) ≡ within l.name (children_in l.parts)

abbrev pub decreases-rest : goal.decreases-rest
decreases-rest l = size (children_in l.rest)
