use Rattle.std.proofs.Common.{◌≡◌, ◌-◌, length, take}
use Rattle.ap_dix.specs.declared.dictionary.Dictionary.{Dictionary}
use Rattle.ap_compile.specs.Drafts.{AreDrafts}
use Rattle.ap_compile.specs.Gatherings.{endings, Gathers, IsPlainGathering, IsGatheringOf}
use Rattle.ap_compile.proofs.gathering.closed_to.Given as goal

abbrev pub invariant-loop : goal.invariant-loop
invariant-loop l = record {
  ends : endings l.all.levels.items
      ≡ take (length l.fn.gathering.levels.items - l.counter) (endings l.fn.gathering.levels.items);
  same : (d : Dictionary) → AreDrafts d l.direction l.drafts → IsPlainGathering l.fn.gathering →
      IsGatheringOf d l.direction (Gathers d l.direction l.fn.gathering) l.all;
}
