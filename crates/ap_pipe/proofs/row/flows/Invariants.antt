use Rattle.std.proofs.Common.{◌≡◌, ℕ, length}
use Rattle.ap_pipe.specs.Row.{AllHold}
use Rattle.ap_pipe.proofs.Moving.{Flowing}
use Rattle.ap_pipe.proofs.row.flows.Given as goal

abbrev pub invariant-loop-at : goal.invariant-loop-at
invariant-loop-at g l = record {
  len : length l.stations ≡ length l.fn.stations;
  flowing : Flowing g.S.Stage g.met.S.Stage.rest_is l.closed l.fn.stations
      l.stations l.at l.went;
  holds : (room : ℕ) → AllHold g.S.Stage room l.fn.stations → AllHold g.S.Stage room l.stations;
}
