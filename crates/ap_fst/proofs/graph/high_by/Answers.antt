use Rattle.std.proofs.Common.{refl}
use Rattle.ap_fst.specs.Graphs.{arc_from}
use Rattle.ap_fst.proofs.MarkLaws.{below_next}
use Rattle.ap_fst.proofs.graph.high_by.Goals as goal

pub returns-clause-point : goal.returns-clause-point
returns-clause-point c =
    below_next arc_from c.args.state _ c.args.arcs.now c.low_by.result refl c.low_by.ensures.point
