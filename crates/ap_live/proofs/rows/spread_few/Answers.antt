use Rattle.std.proofs.Common.{◌≡◌, ◌+◌, arith, refl, sym, ap, ◌∙◌, Some, slice_get, length, ◌<◌, ◌≤◌}
use Rattle.std.proofs.lemmas.Option.{slice_get_read}
use Rattle.ap_fst.specs.declared.label.Edge.{Edge}
use Rattle.ap_live.specs.Fitting.{pick_of}
use Rattle.ap_live.specs.Spreads.{PlaceBelow, AnyPlace}
use Rattle.ap_live.proofs.Spreading.{spread_none, spread_more, spread_seen, below_or_at}
use Rattle.ap_live.proofs.rows.spread_few.Goals as goal

pub loop-place-init : goal.loop-place-init
loop-place-init c = λ from span. spread_none _ _ _ _ _ _
    (λ s j p lt. let le : c.args.first ≤ j = (span.outside j p.edge p.at (sym p.from_is)).0 in
    absurd (omega arith))

pub loop-place-preserved : goal.loop-place-preserved
loop-place-preserved c = λ from span.
    let edge : Edge = c.index-edges-place.result in
    let within : c.loop-place.place < length c.edges-edges.result.now =
    omega (arith, c.loop-place-test.true, c.min-last.ensures) in
    let low : c.loop-place.place < c.args.last =
    omega (arith, c.loop-place-test.true, c.min-last.ensures) in
    let at' : slice_get c.edges-edges.result.now c.loop-place.place ≡ Some edge =
    slice_get_read c.edges-edges.result.now (length c.edges-edges.result.now) c.loop-place.place
    edge refl within c.index-edges-place.is in
    let at : slice_get c.args.fst.now.edges c.loop-place.place ≡ Some edge =
    ap (λ es. slice_get es c.loop-place.place) (sym c.edges-edges.ensures.value) ∙ at' in
    spread_more c.args.fst.now.edges (pick_of c.args.pick) from c.loop-place.place edge
    (PlaceBelow c.loop-place.place) (PlaceBelow (c.loop-place.place + 1))
    c.args.states.now.items c.args.links.now.items c.loop-place.states.items
    c.loop-place.links.items c.try_edge.new.states.items c.try_edge.new.links.items
    (span.inside c.loop-place.place edge at (omega arith) low) (below_or_at c.loop-place.place)
    (c.loop-place.invariant from span) (c.in_ok-try_edge.ensures c.args.fst.now.edges at)

pub returns : goal.returns
returns c = λ from span. spread_seen c.args.fst.now.edges (pick_of c.args.pick) from
    (PlaceBelow c.loop-place.place) AnyPlace c.args.states.now.items c.args.links.now.items
    c.loop-place.states.items c.loop-place.links.items
    (λ s j p any. let lt : j < c.args.last = (span.outside j p.edge p.at (sym p.from_is)).1 in
    let end : c.args.last ≤ length c.args.fst.now.edges = span.end in
    let same : length c.edges-edges.result.now ≡ length c.args.fst.now.edges =
    ap (length {A = Edge}) c.edges-edges.ensures.value in
    omega (arith, c.loop-place-test.false, c.min-last.ensures))
    (c.loop-place.invariant from span)
