use Rattle.std.proofs.Common.{◌+◌, ◌≤◌, [], length}
use Rattle.ap_stream.specs.declared.TheConstants.{UNIT_MAX}
use Rattle.ap_format.specs.Giving.{IsSound, Closes}
use Rattle.ap_format.proofs.reformatter.Reformatter.finish.Given as goal

abbrev pub invariant-loop-self : goal.invariant-loop-self
invariant-loop-self l = record {
  closes : Closes l.initial.self [] l.out l.self;
  sound : IsSound l.self;
  short : length l.out ≤ UNIT_MAX;
  most : length l.self.bytes ≤ UNIT_MAX + 1;
}

abbrev pub decreases-loop-self : goal.decreases-loop-self
decreases-loop-self l = length l.self.bytes
