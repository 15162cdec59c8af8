use Rattle.std.proofs.Common.{length}
use Rattle.ap_pipe.specs.Standing.{standing}
use Rattle.ap_command.specs.Listing.{IsSoFar, listing}
use Rattle.ap_command.proofs.listing.put_lines.Given as goal

abbrev pub invariant-loop-more : goal.invariant-loop-more
invariant-loop-more g l =
    IsSoFar (standing (g.K.Sink.written l.fn.sink) (g.K.Sink.faults l.fn.sink))
    (standing (g.K.Sink.written l.sink) (g.K.Sink.faults l.sink)) (listing l.dictionary) l.expansion

abbrev pub decreases-loop-more : goal.decreases-loop-more
decreases-loop-more g l = length l.expansion
