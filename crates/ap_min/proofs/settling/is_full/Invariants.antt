use Rattle.std.proofs.Common.{◌≡◌, ◌<◌, ℕ, get_or}
use Rattle.ap_min.specs.Rows.{arcs_at}
use Rattle.ap_min.specs.Settled.{IsOpen}
use Rattle.ap_min.proofs.settling.is_full.Given as goal

abbrev pub invariant-loop-state : goal.invariant-loop-state
invariant-loop-state l = (s : ℕ) → s < l.state → get_or l.groups s 0 ≡ 0 →
    IsOpen l.groups (arcs_at l.rows s)
