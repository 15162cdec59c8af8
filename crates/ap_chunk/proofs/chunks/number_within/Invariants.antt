use Rattle.std.proofs.Common.{◌≡◌, ◌≤◌, drop}
use Rattle.ap_chunk.specs.Chunks.{number_from}
use Rattle.ap_chunk.proofs.chunks.number_within.Given as goal

abbrev pub invariant-loop-digit : goal.invariant-loop-digit
invariant-loop-digit l = record {
  within : l.number ≤ l.most;
  so_far : number_from 0 l.digits ≡ number_from l.number (drop l.digit-index l.digits);
}
