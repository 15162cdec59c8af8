use Rattle.std.proofs.Common.{◌≡◌}
use Rattle.ap_rules.specs.Children.{children_in, size}
use Rattle.ap_rules.specs.Sections.{names_behind}
use Rattle.ap_rules.proofs.sections.add_names.Given as goal

abbrev pub invariant-rest : goal.invariant-rest
invariant-rest l = names_behind l.kind l.names (children_in l.rest)
    ≡ names_behind l.kind l.fn.names (children_in l.parts)

abbrev pub decreases-rest : goal.decreases-rest
decreases-rest l = size (children_in l.rest)
