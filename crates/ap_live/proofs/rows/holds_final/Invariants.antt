use Rattle.std.proofs.Common.{take, ℕ}
use Rattle.ap_fst.specs.Lists.{IsIn}
use Rattle.ap_live.proofs.rows.holds_final.Given as goal

abbrev pub invariant-loop-state : goal.invariant-loop-state
invariant-loop-state l = (s : ℕ) → IsIn s (take l.state-index l.states) → IsIn s l.fst.finals → ⊥
