use Rattle.std.proofs.Common.{length, ◌-◌, ◌≡◌, ◌≤◌, drop}
use Rattle.ap_stream.specs.Chunks.{body}
use Rattle.ap_stream.proofs.ChunkWalk.{behind_parts}
use Rattle.ap_stream.proofs.chunks.content_of.Given as goal

abbrev pub invariant-loop-at : goal.invariant-loop-at
invariant-loop-at l = record {
  fits : l.at ≤ length l.bytes;
  on : body 0 l.bytes ≡ behind_parts l.content l.at (body 0 (drop l.at l.bytes));
}

abbrev pub decreases-loop-at : goal.decreases-loop-at
decreases-loop-at l = length l.bytes - l.at
