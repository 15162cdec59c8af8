use Rattle.std.proofs.Common.{◌≡◌, ◌<◌, ◌≤◌, ◌-◌, ◌^◌, length}
use Rattle.ap_binary.proofs.ShortNumbers.{IsSoFar}
use Rattle.ap_binary.proofs.pieces.short_number.Given as goal

abbrev pub invariant-digits : goal.invariant-digits
invariant-digits l = record {
  so_far : IsSoFar l.bytes l.value l.len;
  within : l.len ≤ length l.bytes;
  small : l.value < 2 ^ 64;
}

abbrev pub decreases-digits : goal.decreases-digits
decreases-digits l = length l.bytes - l.len
