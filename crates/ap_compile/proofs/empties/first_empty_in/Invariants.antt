use Rattle.std.proofs.Common.{take}
use Rattle.ap_dix.specs.declared.dictionary.Dictionary.{Dictionary}
use Rattle.ap_compile.specs.Empties.{HasEmptyEntry, AreEmpties, section_entries}
use Rattle.ap_compile.proofs.empties.first_empty_in.Given as goal

abbrev pub invariant-loop-section : goal.invariant-loop-section
invariant-loop-section l = (d : Dictionary) → AreEmpties d l.direction l.empties →
    HasEmptyEntry d l.direction (section_entries (take l.section-index l.sections)) → ⊥
