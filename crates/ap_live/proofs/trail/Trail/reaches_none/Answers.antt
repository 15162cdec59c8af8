use Rattle.std.proofs.Common.{ap}
use Rattle.ap_live.specs.Trails.{Trails}
use Rattle.ap_live.proofs.TrailLaws.{no_ways, view_length}
use Rattle.ap_live.proofs.trail.Trail.reaches_none.Goals as goal

pub returns : goal.returns
returns c = λ edges seen is. no_ways edges c.args.self.now.nodes seen c.low.result c.len.result
    (c.low.ensures.row edges seen is) (view_length c.self.inside.nodes c.args.self.now.nodes c.len.result c.len.ensures (ap (λ (t : Trails). t.nodes) c.self.view_is))
