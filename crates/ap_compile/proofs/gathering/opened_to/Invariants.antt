use Rattle.std.proofs.Common.{◌≡◌, ◌++◌, [], List, length}
use Rattle.ap_dix.specs.declared.dictionary.Dictionary.{Dictionary}
use Rattle.ap_dix.specs.declared.dictionary.Direction.{Direction}
use Rattle.ap_dix.specs.declared.dictionary.EntryPart.{EntryPart}
use Rattle.ap_compile.specs.Gatherings.{endings, shared, Gathers, IsPlainGathering, IsGatheringOf}
use Rattle.ap_compile.proofs.gathering.opened_to.Given as goal

abbrev pub invariant-loop-at : goal.invariant-loop-at
invariant-loop-at l = record {
  some : (front : List EntryPart) × (l.tail ≡ front ++ shared [] (endings l.all.levels.items));
  size : length (endings l.all.levels.items) ≡ l.at;
  same : (d : Dictionary) (direction : Direction) → IsPlainGathering l.fn.gathering →
      IsGatheringOf d direction (Gathers d direction l.fn.gathering) l.all;
}
