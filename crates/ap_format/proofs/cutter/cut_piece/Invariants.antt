use Rattle.std.proofs.Common.{◌≡◌, ◌+◌, ◌-◌, ◌≤◌, [], length, take}
use Rattle.ap_stream.specs.declared.TheConstants.{SPAN_MAX, UNIT_MAX}
use Rattle.ap_format.specs.Standing.{Cuts}
use Rattle.ap_format.proofs.cutter.cut_piece.Given as goal

abbrev pub invariant-loop-used : goal.invariant-loop-used
invariant-loop-used l = record {
  within : l.used ≤ length l.piece;
  cuts : Cuts l.initial.cutter (take l.used l.piece) [] l.out l.cutter;
  none : l.used ≡ 0 → l.out ≡ [];
  short : length l.out ≤ SPAN_MAX + UNIT_MAX + 2;
  most : length l.cutter.bytes ≤ UNIT_MAX;
}

abbrev pub decreases-loop-used : goal.decreases-loop-used
decreases-loop-used l = length l.piece - l.used
