use Rattle.std.proofs.Common.{◌∙◌, ap, map}
use Rattle.std.proofs.lemmas.List.{take_more}
use Rattle.std.proofs.lemmas.List.{map_push}
use Rattle.ap_fst.specs.Graphs.{arc_to}
use Rattle.ap_fst.proofs.Growing.{grows_then}
use Rattle.ap_fst.proofs.graph.add_targets.Goals as goal

pub loop-arc-preserved : goal.loop-arc-preserved
loop-arc-preserved c = grows_then _ _ _ _ _ _
    (ap (map arc_to) (take_more c.args.arcs.now c.loop-arc.arc-index _ c.loop-arc-test.true)
    ∙ map_push arc_to _ _) c.loop-arc.invariant c.in_ok-add.ensures
