use Rattle.std.proofs.Common.{take, ◌≡◌}
use Rattle.std.specs.List.{flat_map}
use Rattle.ap_fst.specs.Trimming.{kept_state}
use Rattle.ap_fst.proofs.trimming.kept_finals.Given as goal

abbrev pub invariant-loop-state : goal.invariant-loop-state
invariant-loop-state l = l.kept ≡ flat_map (kept_state l.states) (take l.state-index l.finals)
