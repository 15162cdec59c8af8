use Rattle.std.proofs.Common.{List, nat_eq}
use Rattle.indexmap.specs.IndexMap.{get}
use Rattle.ap_fst.specs.Lists.{IsIn}
use Rattle.ap_fst.specs.Hubs.{KeepsHubs}
use Rattle.ap_fst.specs.declared.graph.Arc.{Arc}
use Rattle.ap_fst.proofs.hubs.pass_hubs.Given as goal

abbrev pub invariant-loop-arc : goal.invariant-loop-arc
invariant-loop-arc l = (all : List Arc) → ((a : Arc) → IsIn a l.arcs → IsIn a all) →
    KeepsHubs all (get nat_eq l.fn.hubs) (get nat_eq l.hubs)
