use Rattle.std.proofs.Common.{◌≡◌, ◌++◌, map}
use Rattle.ap_rules.specs.Children.{children_in, size}
use Rattle.ap_rules.specs.Sections.{macros, past_macros}
use Rattle.ap_rules.specs.Views.{plain_macro}
use Rattle.ap_rules.proofs.sections.macros.Given as goal

abbrev pub invariant-rest : goal.invariant-rest
invariant-rest l = record {
  made : map plain_macro l.made.items ++ macros l.form l.chunks l.names (children_in l.rest)
      ≡ macros l.form l.chunks l.fn.names (children_in l.parts);
  named : past_macros l.names (children_in l.rest) ≡ past_macros l.fn.names (children_in l.parts);
}

abbrev pub decreases-rest : goal.decreases-rest
decreases-rest l = size (children_in l.rest)
