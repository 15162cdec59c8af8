use Rattle.std.proofs.Common.{◌≡◌, ◌⊎◌, ◌≤◌}
use Rattle.ap_compile.specs.Drafts.{IsMoreBy}
use Rattle.ap_compile.specs.Forming.{OfStrings, IsOfSpan}
use Rattle.ap_compile.proofs.expressions.with_span.Given as goal

abbrev pub invariant-loop-code : goal.invariant-loop-code
invariant-loop-code l = record {
  span : IsMoreBy (OfStrings (IsOfSpan l.first l.code)) l.fn.made l.all;
  bound : (l.code ≡ l.first) ⊎ (l.code ≤ l.end);
}
