use Rattle.std.proofs.Common.{take}
use Rattle.ap_dix.specs.declared.dictionary.Dictionary.{Dictionary}
use Rattle.ap_compile.specs.Drafts.{IsDraftOf, Any, SpellsIn, AreDrafts}
use Rattle.ap_compile.proofs.sections.kind_draft.Given as goal

abbrev pub invariant-loop-section : goal.invariant-loop-section
invariant-loop-section l = (d : Dictionary) → AreDrafts d l.direction l.drafts →
    IsDraftOf (Any (SpellsIn d l.direction l.kind) (take l.section-index l.sections)) l.made
