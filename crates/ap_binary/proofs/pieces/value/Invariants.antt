use Rattle.std.proofs.Common.{◌≡◌, drop, ◌<◌, ◌^◌}
use Rattle.ap_binary.specs.Pieces.{value_after}
use Rattle.ap_binary.proofs.pieces.value.Given as goal

abbrev pub invariant-digits : goal.invariant-digits
invariant-digits l = record {
  same : value_after l.value (drop l.digit-index l.digits) ≡ value_after 0 l.digits;
  small : l.value < 2 ^ 64;
}
