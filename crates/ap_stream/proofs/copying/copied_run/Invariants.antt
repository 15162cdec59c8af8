use Rattle.std.proofs.Common.{◌≤◌, ◌-◌, take, length}
use Rattle.ap_stream.specs.declared.dialect.Dialect.{Dialect}
use Rattle.ap_stream.specs.Copying.{IsRun}
use Rattle.ap_stream.proofs.copying.copied_run.Given as goal

abbrev pub invariant-loop-at : goal.invariant-loop-at
invariant-loop-at l = record {
  fits : l.at ≤ length l.bytes;
  run : (dialect : Dialect) → IsRun dialect (take l.at l.bytes);
}

abbrev pub decreases-loop-at : goal.decreases-loop-at
decreases-loop-at l = length l.bytes - l.at
