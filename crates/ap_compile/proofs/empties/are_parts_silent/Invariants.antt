use Rattle.std.proofs.Common.{take}
use Rattle.ap_dix.specs.declared.dictionary.Dictionary.{Dictionary}
use Rattle.ap_compile.specs.Empties.{IsSilent, AreEmpties}
use Rattle.ap_compile.proofs.empties.are_parts_silent.Given as goal

abbrev pub invariant-loop-part : goal.invariant-loop-part
invariant-loop-part l = (d : Dictionary) → AreEmpties d l.direction l.empties →
    IsSilent d l.direction (take l.part-index l.parts)
