use Rattle.std.proofs.Common.{◌≡◌, ◌++◌, drop}
use Rattle.ap_markup.specs.View.{parts_of}
use Rattle.ap_dix.specs.Value.{entry_parts}
use Rattle.ap_dix.proofs.entries.entry_parts.Given as goal

abbrev pub invariant-parts : goal.invariant-parts
invariant-parts l = l.made ++ entry_parts l.names (parts_of (drop l.part-index l.parts))
    ≡ entry_parts l.names (parts_of l.parts)
