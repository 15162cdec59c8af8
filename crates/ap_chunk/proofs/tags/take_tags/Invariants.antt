use Rattle.std.proofs.Common.{length}
use Rattle.ap_chunk.specs.Tried.{IsTried, steps_left}
use Rattle.ap_chunk.proofs.tags.take_tags.Given as goal

abbrev pub invariant-loop-trial : goal.invariant-loop-trial
invariant-loop-trial l = IsTried l.parts l.tags l.trial

abbrev pub decreases-loop-trial : goal.decreases-loop-trial
decreases-loop-trial l = steps_left (length l.tags) l.trial
