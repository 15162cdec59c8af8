use Rattle.std.proofs.Common.{vec_len}
use Rattle.ap_live.proofs.LeastLaws.{AreThinned}
use Rattle.ap_live.proofs.least_ways.thin_back.Given as goal

abbrev pub invariant-loop-item : goal.invariant-loop-item
invariant-loop-item l = AreThinned l.case l.fn.items.items l.items.items l.kept.items

abbrev pub decreases-loop-item : goal.decreases-loop-item
decreases-loop-item l = vec_len l.items
