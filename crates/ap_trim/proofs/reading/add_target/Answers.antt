use Rattle.std.proofs.Common.{sym, slice_get, ap, ◌∙◌}
use Rattle.std.specs.Option.{option_copied}
use Rattle.ap_det.proofs.Grouping.{target_added, target_none}
use Rattle.ap_trim.proofs.reading.add_target.Goals as goal

pub returns-in_ok-push : goal.returns-in_ok-push
returns-in_ok-push c = target_added (slice_get c.args.edges.now) c.args.place c.in-Some.edge.now
    c.args.targets.now.items c.push.new.self.items (sym c.in-Some.ensures)
    c.in_ok-push.ensures.items

pub returns-in_default : goal.returns-in_default
returns-in_default c = target_none (slice_get c.args.edges.now) c.args.place
    c.args.targets.now.items (sym c.edge_at.ensures ∙ ap option_copied c.in_default.is)
