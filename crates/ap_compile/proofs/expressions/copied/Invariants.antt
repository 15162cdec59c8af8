use Rattle.std.proofs.Common.{◌≡◌, take}
use Rattle.ap_compile.proofs.expressions.copied.Given as goal

abbrev pub invariant-loop-range : goal.invariant-loop-range
invariant-loop-range l = l.made.items ≡ take l.range-index l.ranges
