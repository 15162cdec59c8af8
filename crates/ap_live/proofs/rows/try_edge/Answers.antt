use Rattle.std.proofs.Common.{sym, ◌∙◌}
use Rattle.ap_live.specs.Fitting.{pick_of}
use Rattle.ap_live.proofs.Spreading.{spread_skip}
use Rattle.ap_live.proofs.rows.try_edge.Goals as goal

pub returns-then-not-is_picked : goal.returns-then-not-is_picked
returns-then-not-is_picked c =
    λ edges at. spread_skip edges (pick_of c.args.pick) c.args.place c.args.states.now.items
    c.args.links.now.items c.args.edge.now at (sym c.is_picked.ensures ∙ c.if-not-is_picked.true)
