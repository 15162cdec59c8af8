use Rattle.std.proofs.Common.{◌≡◌, drop}
use Rattle.ap_markup.specs.View.{parts_of}
use Rattle.ap_dix.specs.Faults.{declared_in}
use Rattle.ap_dix.proofs.faults.+declare.Given as goal

abbrev pub invariant-parts : goal.invariant-parts
invariant-parts l = declared_in l.names (parts_of (drop l.part-index l.parts))
    ≡ declared_in l.fn.names (parts_of l.parts)
