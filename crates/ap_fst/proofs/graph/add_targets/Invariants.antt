use Rattle.std.proofs.Common.{take, map}
use Rattle.ap_fst.specs.Graphs.{Grows, arc_to}
use Rattle.ap_fst.proofs.graph.add_targets.Given as goal

abbrev pub invariant-loop-arc : goal.invariant-loop-arc
invariant-loop-arc l = Grows l.initial.set (map arc_to (take l.arc-index l.arcs)) l.set
