use Rattle.std.proofs.Common.{◌≡◌, [], Some, None}
use Rattle.std.specs.Vec.Iter.{into_iter_items}
use Rattle.ap_dix.specs.Machines.{stack_step, stack, stage, run}
use Rattle.ap_dix.specs.Views.{stack_of}
use Rattle.ap_dix.proofs.stages.choices.Given as goal

abbrev pub invariant-loop-token : goal.invariant-loop-token
invariant-loop-token l = run stack_step (Some (stack_of l.stack)) (into_iter_items l.token-iterator)
    ≡ run stack_step (Some (stack (stage [] [] None) [])) l.fn.tokens.items
