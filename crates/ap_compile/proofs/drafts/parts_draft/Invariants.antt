use Rattle.std.proofs.Common.{take}
use Rattle.ap_dix.specs.Derivation.{Derives}
use Rattle.ap_dix.specs.declared.dictionary.Dictionary.{Dictionary}
use Rattle.ap_compile.specs.Drafts.{IsDraftOf, AreDrafts}
use Rattle.ap_compile.proofs.drafts.parts_draft.Given as goal

abbrev pub invariant-loop-part : goal.invariant-loop-part
invariant-loop-part l = (d : Dictionary) → AreDrafts d l.direction l.drafts →
    IsDraftOf (Derives d l.direction (take l.part-index l.parts)) l.made
