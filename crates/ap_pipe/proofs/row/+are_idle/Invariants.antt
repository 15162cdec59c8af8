use Rattle.std.proofs.Common.{length}
use Rattle.ap_pipe.proofs.row.+are_idle.Given as goal

abbrev pub decreases-are_idle : goal.decreases-are_idle
decreases-are_idle g l = length l.stations.now
