use Rattle.std.proofs.Common.{take}
use Rattle.ap_dix.specs.Language.{IsOfClass}
use Rattle.ap_compile.specs.Drafts.{IsDraftOf}
use Rattle.ap_compile.specs.Forming.{OfStrings, IsCovered}
use Rattle.ap_compile.proofs.expressions.ranges_draft.Given as goal

abbrev pub invariant-loop-range : goal.invariant-loop-range
invariant-loop-range l = record {
  exact : IsDraftOf (OfStrings (IsOfClass (take l.range-index l.ranges))) l.made;
  covered : IsCovered l.ranges l.range-index l.next;
}
