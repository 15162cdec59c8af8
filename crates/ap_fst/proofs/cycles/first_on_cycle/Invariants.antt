use Rattle.std.proofs.Common.{ℕ, ◌<◌}
use Rattle.ap_fst.specs.Silence.{IsOnEmptyCycle}
use Rattle.ap_fst.proofs.cycles.first_on_cycle.Given as goal

abbrev pub invariant-loop-at : goal.invariant-loop-at
invariant-loop-at l = (i : ℕ) → i < l.at → IsOnEmptyCycle l.edges i → ⊥
