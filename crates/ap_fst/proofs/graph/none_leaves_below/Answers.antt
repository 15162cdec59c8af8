use Rattle.std.proofs.Common.{arith}
use Rattle.std.proofs.lemmas.Bool.Decides.{nat_tests}
use Rattle.ap_fst.specs.Graphs.{arc_from}
use Rattle.ap_fst.proofs.MarkLaws.{none_below}
use Rattle.ap_fst.proofs.graph.none_leaves_below.Goals as goal

pub returns : goal.returns
returns c = λ t. none_below arc_from c.args.state c.args.arcs.now c.args.place
    (record { from = 0; to = 0 }) c.requires (grind (arith, nat_tests))
