use Rattle.std.proofs.Common.{◌≡◌}
use Rattle.ap_markup.specs.View.{parts_of}
use Rattle.ap_dix.specs.Value.{sections}
use Rattle.ap_dix.proofs.sections.sections.Given as goal

abbrev pub invariant-parts : goal.invariant-parts
invariant-parts l = l.made ≡ sections l.names (parts_of l.yielded)
