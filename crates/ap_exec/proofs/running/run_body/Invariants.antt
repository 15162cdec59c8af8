use Rattle.std.proofs.Common.{◌≡◌}
use Rattle.ap_exec.specs.Stacks.{left, IsNested, stack_cost}
use Rattle.ap_exec.specs.States.{run_state, definitions}
use Rattle.ap_exec.proofs.running.run_body.Given as goal

abbrev pub invariant-frames : goal.invariant-frames
invariant-frames l = IsNested l.stack
    × (left (definitions l.world) l.stack (run_state l.world l.state)
    ≡ left (definitions l.world) l.initial.stack (run_state l.world l.initial.state))

abbrev pub decreases-frames : goal.decreases-frames
decreases-frames l = stack_cost (definitions l.world) l.stack
