use Rattle.std.proofs.Common.{sym}
use Rattle.ap_det.specs.Exits.{edge_at}
use Rattle.ap_det.proofs.Grouping.{target_added}
use Rattle.ap_det.proofs.groups.add_target.Goals as goal

pub returns-in_ok-push : goal.returns-in_ok-push
returns-in_ok-push c = target_added (edge_at c.args.edges.now c.args.places.now) c.args.number
    c.in-Some.edge.now c.args.targets.now.items c.push.new.self.items (sym c.in-Some.ensures)
    c.in_ok-push.ensures.items
