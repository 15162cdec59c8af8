use Rattle.std.proofs.Common.{take}
use Rattle.ap_dix.specs.declared.dictionary.Dictionary.{Dictionary}
use Rattle.ap_compile.specs.Drafts.{Any, AreDrafts, AreDraftedParts}
use Rattle.ap_compile.specs.Gatherings.{SpellsFrom, endings, IsGatheringOf}
use Rattle.ap_compile.proofs.gathering.gathered.Given as goal

abbrev pub invariant-loop-place : goal.invariant-loop-place
invariant-loop-place l = record {
  drafted : AreDraftedParts l.drafts (endings l.gathering.levels.items);
  strings : (d : Dictionary) → AreDrafts d l.direction l.drafts →
      IsGatheringOf d l.direction
      (Any (SpellsFrom d l.direction l.entries) (take l.place-index l.places)) l.gathering;
}
