use Rattle.std.proofs.Common.{◌≡◌, Some, take}
use Rattle.ap_stream.specs.Effects.{crossing}
use Rattle.ap_stream.proofs.crossing.unit_run.Given as goal

abbrev pub invariant-loop-count : goal.invariant-loop-count
invariant-loop-count l = crossing l.dialect l.fn.mode (take l.count l.bytes) ≡ Some l.at
