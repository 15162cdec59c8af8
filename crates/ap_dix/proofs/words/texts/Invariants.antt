use Rattle.std.proofs.Common.{◌≡◌, ◌++◌, drop}
use Rattle.ap_markup.specs.View.{parts_of}
use Rattle.ap_dix.specs.WordText.{texts}
use Rattle.ap_dix.proofs.words.texts.Given as goal

abbrev pub invariant-parts : goal.invariant-parts
invariant-parts l = l.made ++ texts (parts_of (drop l.part-index l.parts))
    ≡ texts (parts_of l.parts)
