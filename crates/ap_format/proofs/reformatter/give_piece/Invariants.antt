use Rattle.std.proofs.Common.{◌+◌, ◌-◌, ◌≤◌, [], length, take}
use Rattle.ap_stream.specs.declared.TheConstants.{SPAN_MAX, UNIT_MAX}
use Rattle.ap_format.specs.Giving.{IsSound, Takes, weight}
use Rattle.ap_format.proofs.reformatter.give_piece.Given as goal

abbrev pub invariant-loop-used : goal.invariant-loop-used
invariant-loop-used l = record {
  within : l.used ≤ length l.piece;
  takes : Takes l.initial.reformatter (take l.used l.piece) [] l.out l.reformatter;
  sound : IsSound l.reformatter;
  short : length l.out ≤ SPAN_MAX + UNIT_MAX + 2;
  most : length l.reformatter.bytes ≤ UNIT_MAX + 1;
}

abbrev pub decreases-loop-used : goal.decreases-loop-used
decreases-loop-used l = weight l.reformatter (length l.piece - l.used)
