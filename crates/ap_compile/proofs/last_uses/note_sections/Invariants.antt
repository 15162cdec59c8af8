use Rattle.std.proofs.Common.{take}
use Rattle.ap_compile.specs.LastUses.{AreLater, CoverSections}
use Rattle.ap_compile.proofs.last_uses.note_sections.Given as goal

abbrev pub invariant-loop-section : goal.invariant-loop-section
invariant-loop-section l = record {
  later : AreLater l.fn.last.items l.last.items;
  noted : CoverSections l.last.items (take l.section-index l.sections) l.at;
}
