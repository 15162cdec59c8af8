use Rattle.std.proofs.Common.{◌≡◌, ◌++◌, drop}
use Rattle.ap_markup.specs.View.{parts_of}
use Rattle.ap_dix.specs.Value.{alphabet}
use Rattle.ap_dix.proofs.sections.alphabet.Given as goal

abbrev pub invariant-parts : goal.invariant-parts
invariant-parts l = l.made ++ alphabet (parts_of (drop l.part-index l.parts))
    ≡ alphabet (parts_of l.parts)
