use Rattle.std.proofs.Common.{subst, sym, List}
use Rattle.std.specs.List.Sorted.{IsNonDecreasingBy}
use Rattle.ap_fst.specs.Machines.{edge_from}
use Rattle.ap_fst.specs.declared.label.Edge.{Edge}
use Rattle.ap_fst.proofs.WalkLaws.{edges_sorted}
use Rattle.ap_fst.proofs.fst.Fst.edges_from.Goals as goal

pub part_of-requires : goal.part_of-requires
part_of-requires c = subst (λ (z : List Edge). IsNonDecreasingBy edge_from z)
    (sym c.as_slice.ensures) (edges_sorted c.self.inside.edges c.self.invariant.edges_ascend)
