use Rattle.std.proofs.Common.{◌-◌, ◌≤◌, length}
use Rattle.ap_stream.proofs.PlainWords.{Behind}
use Rattle.ap_stream.proofs.plain.plain_at.Given as goal

abbrev pub invariant-loop-behind : goal.invariant-loop-behind
invariant-loop-behind l = record {
  sought : l.behind ≤ l.wanted;
  within : l.from ≤ length l.held;
  stands : Behind l.fn.dialect l.held l.behind l.from;
}

abbrev pub decreases-loop-behind : goal.decreases-loop-behind
decreases-loop-behind l = l.wanted - l.behind
