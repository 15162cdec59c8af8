use Rattle.ap_fst.proofs.HubLaws.{own_hub}
use Rattle.ap_fst.proofs.hubs.hub_of.Goals as goal

pub returns-in-None : goal.returns-in-None
returns-in-None c = λ arcs h. own_hub arcs c.args.state
