use Rattle.std.proofs.Common.{length}
use Rattle.ap_chunk.proofs.places.number_of.Given as goal

abbrev pub decreases-loop-rest : goal.decreases-loop-rest
decreases-loop-rest l = length l.rest
