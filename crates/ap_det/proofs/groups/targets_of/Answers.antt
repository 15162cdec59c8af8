use Rattle.std.proofs.Common.{eqb}
use Rattle.std.proofs.lemmas.List.Filters.{dedup_is}
use Rattle.ap_det.specs.Exits.{edge_at}
use Rattle.ap_det.proofs.Grouping.{targets_once}
use Rattle.ap_det.proofs.groups.targets_of.Goals as goal

pub returns : goal.returns
returns c = targets_once (edge_at c.args.edges.now c.args.places.now) c.args.low c.args.high
    c.in_ok-targets.targets.items c.dedup.new.self.items
    (dedup_is eqb c.in_ok-targets.targets.items c.dedup.new.self.items c.dedup.ensures.filtered)
    c.in_ok-targets.ensures
