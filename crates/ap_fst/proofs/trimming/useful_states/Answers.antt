use Rattle.std.proofs.Common.{◌∙◌, ap, subst, sym, List, map, [], ◌∷◌, refl}
use Rattle.std.specs.List.Sorted.{IsPermutation}
use Rattle.ap_fst.specs.Graphs.{forward, backward}
use Rattle.ap_fst.specs.declared.graph.Arc.{Arc}
use Rattle.ap_fst.specs.declared.label.Edge.{Edge}
use Rattle.ap_fst.proofs.WalkLaws.{forward_sorted, useful_by_arcs}
use Rattle.ap_fst.proofs.trimming.useful_states.Goals as goal

pub reach-requires : goal.reach-requires
reach-requires c = forward_sorted c.args.fst.now.edges c.as_slice.result.now
    c.edges-edges.ensures.sound.edges_ascend
    (c.as_slice.ensures.value ∙ c.in_ok-arcs.ensures ∙ ap (map forward) c.edges-edges.ensures.value)

pub returns-clause-exactly : goal.returns-clause-exactly
returns-clause-exactly c =
    useful_by_arcs c.args.fst.now c.in_ok-ahead.ahead c.in_ok-behind.behind c.as_slice.result.now
    c.as_slice-2.result.now (0 ∷ []) c.finals.result.now
    (c.as_slice.ensures.value ∙ c.in_ok-arcs.ensures ∙ ap (map forward) c.edges-edges.ensures.value)
    (subst (λ (z : List Edge). IsPermutation (map backward z) c.as_slice-2.result.now)
    c.edges-edges.ensures.value
    (subst (λ (z : List Arc). IsPermutation (map backward c.edges-edges.result.now) z)
    (sym c.as_slice-2.ensures.value) c.in_ok-turned.ensures.permutation))
    refl c.finals.ensures.value c.in_ok-ahead.ensures c.in_ok-behind.ensures
    c.in_ok-states.states.items c.in_ok-states.ensures.exactly
