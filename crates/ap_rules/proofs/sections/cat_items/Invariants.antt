use Rattle.std.proofs.Common.{◌≡◌, ◌++◌, [], map}
use Rattle.ap_rules.specs.Children.{children_in, size}
use Rattle.ap_rules.specs.Scopes.{scope}
use Rattle.ap_rules.specs.Sections.{cat_items}
use Rattle.ap_rules.specs.Views.{plain_macro, plain_rule}
use Rattle.ap_rules.proofs.sections.cat_items.Given as goal

abbrev pub invariant-rest : goal.invariant-rest
invariant-rest l = l.made ++ cat_items l.form (children_in l.rest)
    ≡ cat_items l.form (children_in l.parts)

abbrev pub decreases-rest : goal.decreases-rest
decreases-rest l = size (children_in l.rest)
