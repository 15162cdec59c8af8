use Rattle.std.proofs.Common.{nat_eq}
use Rattle.indexmap.specs.IndexMap.{get}
use Rattle.ap_fst.proofs.HubLaws.{hub_passed}
use Rattle.ap_fst.proofs.hubs.pass_hub.Goals as goal

pub returns : goal.returns
returns c = λ arcs i h. hub_passed arcs c.args.arc.now c.hub_of-hub.result
    (get nat_eq c.args.hubs.now) (get nat_eq c.insert.new.self) i c.in_ok-insert.ensures.updates.0
    (c.hub_of-hub.ensures arcs h) h
