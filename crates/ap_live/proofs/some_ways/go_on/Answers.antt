use Rattle.std.proofs.Common.{◌≡◌, ◌∷◌, ◌∙◌, ◌+◌, ℕ, List, Some, ap, refl, slice_get, subst, sym, take}
use Rattle.std.proofs.lemmas.Option.{slice_get-get_or}
use Rattle.ap_fst.specs.Lists.{IsIn}
use Rattle.ap_live.specs.Spreads.{arrival}
use Rattle.ap_live.specs.Trails.{Way}
use Rattle.ap_live.specs.declared.arrivals.Arrival.{Arrival}
use Rattle.ap_live.proofs.SomeWays.{on_silently, on_taking, same_pair}
use Rattle.ap_live.proofs.some_ways.go_on.Goals as goal

pub returns-then-is_silent : goal.returns-then-is_silent
returns-then-is_silent c = λ next to e seen places are way.
    let (a, b) = same_pair _ c.args.row c.in_ok-edge.edge.now.to next to refl e in
    let at : slice_get c.args.fst.now.edges c.args.place ≡ Some c.in_ok-edge.edge.now =
    ap (λ es. slice_get es c.args.place) (sym c.edges.ensures.value) ∙ sym c.in_ok-edge.ensures in
    let on : Way c.args.fst.now.edges (take c.args.row seen) c.in_ok-edge.edge.now.to
    (c.args.place ∷ places) =
    on_silently c.args.fst.now.edges (take c.args.row seen) c.args.state c.args.place
    c.in_ok-edge.edge.now places at c.if-edge-state.false
    (sym c.is_silent.ensures ∙ c.if-is_silent.true) way in
    subst (λ (z : ℕ). Way c.args.fst.now.edges (take next seen) z (c.args.place ∷ places)) b
    (subst (λ (z : ℕ). Way c.args.fst.now.edges (take z seen) c.in_ok-edge.edge.now.to
    (c.args.place ∷ places)) a on)

pub returns : goal.returns
returns c = λ next to e seen places are way.
    let (a, b) = same_pair _ (c.args.row + 1) c.in_ok-edge.edge.now.to next to refl e in
    let at : slice_get c.args.fst.now.edges c.args.place ≡ Some c.in_ok-edge.edge.now =
    ap (λ es. slice_get es c.args.place) (sym c.edges.ensures.value) ∙ sym c.in_ok-edge.ensures in
    let link : IsIn (arrival c.in_ok-edge.edge.now.to c.args.place)
    c.in_ok-next.next.now.taken.items =
    subst (λ (z : List Arrival). IsIn (arrival c.in_ok-edge.edge.now.to c.args.place) z)
    c.taken.ensures.value (c.has_link.ensures c.if-not-has_link.false) in
    let there : slice_get c.args.rows.now (c.args.row + 1) ≡ Some c.in_ok-next.next.now =
    slice_get-get_or c.args.rows.now (c.args.row + 1) c.in_ok-next.next.now
    c.in_ok-next.ensures.lookup.3.0 ∙ ap Some (sym c.in_ok-next.ensures.lookup.1) in
    let on : Way c.args.fst.now.edges (take (c.args.row + 1) seen) c.in_ok-edge.edge.now.to
    (c.args.place ∷ places) =
    on_taking c.args.fst.now.edges seen c.args.rows.now c.in_ok-next.next.now c.args.row
    c.args.state c.args.place c.in_ok-edge.edge.now places are there at
    c.if-edge-state.false link way in
    subst (λ (z : ℕ). Way c.args.fst.now.edges (take next seen) z (c.args.place ∷ places)) b
    (subst (λ (z : ℕ). Way c.args.fst.now.edges (take z seen) c.in_ok-edge.edge.now.to
    (c.args.place ∷ places)) a on)
