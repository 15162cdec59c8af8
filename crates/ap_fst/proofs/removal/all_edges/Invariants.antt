use Rattle.std.proofs.Common.{nat_eq}
use Rattle.indexmap.specs.IndexMap.{get}
use Rattle.ap_fst.specs.Covering.{AreRows}
use Rattle.ap_fst.proofs.Removals.{AreLastEdges}
use Rattle.ap_fst.proofs.removal.all_edges.Given as goal

abbrev pub invariant-loop-back : goal.invariant-loop-back
invariant-loop-back l = record {
  rows : AreRows l.moves l.arcs.finish (get nat_eq l.rows);
  edges : AreLastEdges l.moves l.arcs.finish l.leads l.kept l.back l.edges.items;
}
