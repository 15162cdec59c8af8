use Rattle.std.proofs.Common.{◌≡◌}
use Rattle.ap_markup.specs.View.{parts_of}
use Rattle.ap_dix.specs.Value.{entries}
use Rattle.ap_dix.proofs.entries.into_entries.Given as goal

abbrev pub invariant-parts : goal.invariant-parts
invariant-parts l = l.made ≡ entries l.names (parts_of l.yielded)
