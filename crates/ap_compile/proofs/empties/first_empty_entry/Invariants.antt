use Rattle.std.proofs.Common.{take}
use Rattle.ap_dix.specs.declared.dictionary.Dictionary.{Dictionary}
use Rattle.ap_compile.specs.Empties.{HasEmptyEntry, AreEmpties}
use Rattle.ap_compile.proofs.empties.first_empty_entry.Given as goal

abbrev pub invariant-loop-entry : goal.invariant-loop-entry
invariant-loop-entry l = (d : Dictionary) → AreEmpties d l.direction l.empties →
    HasEmptyEntry d l.direction (take l.entry-index l.entries) → ⊥
