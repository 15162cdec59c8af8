use Rattle.ap_compile.specs.LastUses.{AreDraftsTo}
use Rattle.ap_compile.proofs.paradigms.paradigm_drafts.Given as goal

abbrev pub invariant-loop-pardef : goal.invariant-loop-pardef
invariant-loop-pardef l =
    AreDraftsTo l.dictionary l.direction l.last.items l.pardef-index l.drafts.items
