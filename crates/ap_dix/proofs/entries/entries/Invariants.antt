use Rattle.std.proofs.Common.{◌≡◌, ◌++◌, drop}
use Rattle.ap_markup.specs.View.{parts_of}
use Rattle.ap_dix.specs.Value.{entries}
use Rattle.ap_dix.proofs.entries.entries.Given as goal

abbrev pub invariant-parts : goal.invariant-parts
invariant-parts l = l.made ++ entries l.names (parts_of (drop l.part-index l.parts))
    ≡ entries l.names (parts_of l.parts)
