use Rattle.std.proofs.Common.{◌≡◌, ◌≤◌, length, drop, true}
use Rattle.ap_stream.specs.Bare.{plain_first, bare_run}
use Rattle.ap_stream.proofs.front.is_bare.Given as goal

abbrev pub invariant-loop-at : goal.invariant-loop-at
invariant-loop-at l = record {
  fits : l.at ≤ length l.bytes;
  bare : bare_run (drop l.at l.bytes) ≡ true;
  plain : l.plain ≡ plain_first (drop l.at l.bytes);
}

abbrev pub decreases-loop-at : goal.decreases-loop-at
decreases-loop-at l = l.at
