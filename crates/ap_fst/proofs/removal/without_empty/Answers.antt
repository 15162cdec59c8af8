use Rattle.std.proofs.Common.{subst, sym, List, ℕ}
use Rattle.std.specs.Prelude.{◌↔◌}
use Rattle.ap_fst.specs.Lists.{Ascends}
use Rattle.ap_fst.specs.Order.{edge_cmp}
use Rattle.ap_fst.specs.Machines.{Machine}
use Rattle.ap_fst.specs.Sketches.{Sketch}
use Rattle.ap_fst.specs.Paths.{Accepts}
use Rattle.ap_fst.specs.Walks.{AcceptsLabels}
use Rattle.ap_fst.specs.Covering.{AreLeads}
use Rattle.ap_fst.specs.declared.label.Edge.{Edge}
use Rattle.ap_fst.proofs.Removals.{IsRemoval, removal_made, removal_accepts, removal_is_machine}
use Rattle.ap_fst.proofs.removal.without_empty.Goals as goal

pub all_edges-requires-clause-leads : goal.all_edges-requires-clause-leads
all_edges-requires-clause-leads c =
    subst (λ (z : List ℕ). AreLeads c.as_slice-moves.result.now c.in_ok-arcs.arcs.finish z)
    (sym c.as_slice-2.ensures.value) c.in_ok-leads.ensures

pub build-requires : goal.build-requires
build-requires c =
    let d : Sketch = record {
      states = c.draft.inside.states;
      start = c.draft.inside.start;
      finish = c.draft.inside.end;
      moves = c.draft.inside.moves.items;
    } in
    let m : Machine = record {
      states = c.len.result;
      edges = c.from_vec.result;
      finals = c.in_ok-finals.finals;
    } in
    let r : IsRemoval d c.in_ok-arcs.arcs c.as_slice.result.now c.in_ok-kept.kept
    c.in_ok-back.back m =
    removal_made d c.as_slice-moves.result.now c.in_ok-arcs.arcs c.in_ok-leads.leads.items
    c.as_slice.result.now c.as_slice-2.result.now c.in_ok-kept.kept c.in_ok-back.back
    c.in_ok-edges.edges.items c.sort_edges.new.edges.items m c.as_slice-moves.ensures.value
    c.in_ok-arcs.ensures.arcs c.in_ok-arcs.ensures.finish c.in_ok-leads.ensures
    c.as_slice.ensures.value c.as_slice-2.ensures.value c.in_ok-kept.ensures c.in_ok-back.ensures
    c.in_ok-edges.ensures c.sort_edges.ensures.members c.from_vec.ensures c.len.ensures
    c.in_ok-finals.ensures.members in
    removal_is_machine d c.in_ok-arcs.arcs c.as_slice.result.now c.in_ok-kept.kept
    c.in_ok-back.back m r c.draft.invariant
    (subst (λ (z : List Edge). Ascends edge_cmp z) (sym c.from_vec.ensures)
    c.sort_edges.ensures.ascend) c.in_ok-finals.ensures.ascend

pub returns : goal.returns
returns c = λ w.
    let d : Sketch = record {
      states = c.draft.inside.states;
      start = c.draft.inside.start;
      finish = c.draft.inside.end;
      moves = c.draft.inside.moves.items;
    } in
    let m : Machine = record {
      states = c.len.result;
      edges = c.from_vec.result;
      finals = c.in_ok-finals.finals;
    } in
    let r : IsRemoval d c.in_ok-arcs.arcs c.as_slice.result.now c.in_ok-kept.kept
    c.in_ok-back.back m =
    removal_made d c.as_slice-moves.result.now c.in_ok-arcs.arcs c.in_ok-leads.leads.items
    c.as_slice.result.now c.as_slice-2.result.now c.in_ok-kept.kept c.in_ok-back.back
    c.in_ok-edges.edges.items c.sort_edges.new.edges.items m c.as_slice-moves.ensures.value
    c.in_ok-arcs.ensures.arcs c.in_ok-arcs.ensures.finish c.in_ok-leads.ensures
    c.as_slice.ensures.value c.as_slice-2.ensures.value c.in_ok-kept.ensures c.in_ok-back.ensures
    c.in_ok-edges.ensures c.sort_edges.ensures.members c.from_vec.ensures c.len.ensures
    c.in_ok-finals.ensures.members in
    let P : Machine → Type 0 = λ z. AcceptsLabels z w ↔ Accepts c.args.draft.now w in
    let Q : Sketch → Type 0 = λ z. AcceptsLabels m w ↔ Accepts z w in
    subst P (sym c.build.ensures)
    (subst Q c.draft.view_is
    (removal_accepts d c.in_ok-arcs.arcs c.as_slice.result.now c.in_ok-kept.kept c.in_ok-back.back m
    r w))
