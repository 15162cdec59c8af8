use Rattle.std.proofs.Common.{nat_eq}
use Rattle.indexmap.specs.IndexMap.{get}
use Rattle.ap_fst.specs.Silence.{RiseBefore}
use Rattle.ap_fst.proofs.cycles.first_level.Given as goal

abbrev pub invariant-loop-at : goal.invariant-loop-at
invariant-loop-at l = RiseBefore (get nat_eq l.numbers) l.edges l.at
