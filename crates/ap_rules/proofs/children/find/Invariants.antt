use Rattle.std.proofs.Common.{◌≡◌}
use Rattle.ap_rules.specs.Children.{children_in, size, tag_within}
use Rattle.ap_rules.proofs.children.find.Given as goal

abbrev pub invariant-rest : goal.invariant-rest
invariant-rest l = tag_within l.name (children_in l.rest) ≡ tag_within l.name (children_in l.parts)

abbrev pub decreases-rest : goal.decreases-rest
decreases-rest l = size (children_in l.rest)
