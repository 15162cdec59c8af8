use Rattle.std.proofs.Common.{◌≡◌, drop}
use Rattle.ap_markup.specs.View.{parts_of}
use Rattle.ap_markup.specs.Said.{child}
use Rattle.ap_markup.proofs.said.child.Given as goal

abbrev pub invariant-parts : goal.invariant-parts
invariant-parts l = child l.name (parts_of (drop l.part-index l.parts))
    ≡ child l.name (parts_of l.parts)
