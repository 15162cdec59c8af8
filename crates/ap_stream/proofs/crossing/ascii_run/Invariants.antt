use Rattle.std.proofs.Common.{◌≤◌, ◌<◌, ◌-◌, ℕ, slice_index}
use Rattle.ap_stream.proofs.crossing.ascii_run.Given as goal

abbrev pub invariant-loop-at : goal.invariant-loop-at
invariant-loop-at l = record {
  fits : l.at ≤ l.end;
  ascii : (k : ℕ) → k < l.at → slice_index l.bytes k < 128;
}

abbrev pub decreases-loop-at : goal.decreases-loop-at
decreases-loop-at l = l.end - l.at
