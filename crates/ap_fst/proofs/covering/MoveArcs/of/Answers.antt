use Rattle.std.proofs.Common.{sym, subst, List}
use Rattle.std.specs.List.Sorted.{IsNonDecreasingBy}
use Rattle.ap_fst.specs.Graphs.{arc_from}
use Rattle.ap_fst.specs.declared.graph.Arc.{Arc}
use Rattle.ap_fst.proofs.Coverings.{arcs_made}
use Rattle.ap_fst.proofs.covering.MoveArcs.of.Goals as goal

pub cycle_numbers-requires-clause-entering : goal.cycle_numbers-requires-clause-entering
cycle_numbers-requires-clause-entering c = subst (λ (z : List Arc). IsNonDecreasingBy arc_from z)
    (sym c.as_slice-6.ensures.value) c.in_ok-entering.ensures.sorted

pub hubs_over-requires-2 : goal.hubs_over-requires-2
hubs_over-requires-2 c = subst (λ (z : List Arc). IsNonDecreasingBy arc_from z)
    (sym c.as_slice-10.ensures.value) c.in_ok-entering.ensures.sorted

pub returns-clause-arcs : goal.returns-clause-arcs
returns-clause-arcs c =
    arcs_made c.args.moves.now c.in_ok-quiet.quiet.items c.in_ok-entering.entering.items
    c.in_ok-loud.loud.items c.args.finish c.in_ok-quiet.ensures.permutation
    c.in_ok-entering.ensures.permutation c.in_ok-loud.ensures.loud
