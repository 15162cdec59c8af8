use Rattle.std.proofs.Common.{◌-◌, ◌^◌, nat_eq}
use Rattle.indexmap.specs.IndexMap.{get}
use Rattle.ap_fst.specs.Hubs.{KeepsHubs}
use Rattle.ap_fst.proofs.hubs.spread_hub.Given as goal

abbrev pub invariant-loop-member : goal.invariant-loop-member
invariant-loop-member l = KeepsHubs l.arcs (get nat_eq l.fn.hubs) (get nat_eq l.hubs)

abbrev pub decreases-loop-member : goal.decreases-loop-member
decreases-loop-member l = 2 ^ 64 - l.at
