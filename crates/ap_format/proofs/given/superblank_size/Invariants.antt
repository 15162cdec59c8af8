use Rattle.std.proofs.Common.{◌-◌, ◌≤◌, length, take, []}
use Rattle.ap_stream.specs.Stands.{Within}
use Rattle.ap_format.proofs.given.superblank_size.Given as goal

abbrev pub invariant-loop-at : goal.invariant-loop-at
invariant-loop-at l = record {
  fits : l.at ≤ length l.bytes;
  within : Within l.escaped (take l.at l.bytes) [];
}

abbrev pub decreases-loop-at : goal.decreases-loop-at
decreases-loop-at l = length l.bytes - l.at
