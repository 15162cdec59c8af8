use Rattle.std.proofs.Common.{◌≡◌, ℕ, true, length}
use Rattle.ap_pipe.specs.Row.{AllHold}
use Rattle.ap_pipe.specs.Ran.{Ran}
use Rattle.ap_pipe.proofs.row.flow_at.Given as goal

abbrev pub invariant-loop : goal.invariant-loop
invariant-loop g l = record {
  len : length l.stations ≡ length l.fn.stations;
  ran : Ran g.S.Stage l.closed l.fn.stations l.stations true;
  holds : (room : ℕ) → AllHold g.S.Stage room l.fn.stations → AllHold g.S.Stage room l.stations;
}
