use Rattle.std.proofs.Common.{arith}
use Rattle.std.proofs.lemmas.Bool.Decides.{nat_tests}
use Rattle.ap_fst.specs.Graphs.{arc_from}
use Rattle.ap_fst.proofs.MarkLaws.{all_below}
use Rattle.ap_fst.proofs.graph.leave_below.Goals as goal

pub returns-clause-below : goal.returns-clause-below
returns-clause-below c =
    λ t. all_below arc_from c.args.state c.args.arcs.now c.args.count (record { from = 0; to = 0 })
    c.requires (omega arith) (omega arith) (grind (arith, nat_tests))
