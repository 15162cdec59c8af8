use Rattle.std.proofs.Common.{nat_eq}
use Rattle.indexmap.specs.IndexMap.{get}
use Rattle.ap_fst.specs.Hubs.{AreHubs}
use Rattle.ap_fst.proofs.hubs.hubs_over.Given as goal

abbrev pub invariant-loop-at : goal.invariant-loop-at
invariant-loop-at l = AreHubs l.fn.arcs (get nat_eq l.hubs)
