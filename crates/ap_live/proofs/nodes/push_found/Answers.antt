use Rattle.std.proofs.Common.{◌≡◌, ◌+◌, ◌∙◌, ◌<◌, ◌≤◌, [], ◌∷◌, Some, ap, arith, length, refl, slice_get, sym, ℕ}
use Rattle.std.proofs.lemmas.Option.{slice_get_read}
use Rattle.ap_fst.specs.declared.label.Edge.{Edge}
use Rattle.ap_live.specs.Spreads.{HasLeft, HasLeftBelow, IsPlace}
use Rattle.ap_live.specs.Trails.{node}
use Rattle.ap_live.proofs.NodeLaws.{adds_edge, adds_none, adds_seen, adds_two, grows_more, grows_none}
use Rattle.ap_live.proofs.Outlining.{left_below}
use Rattle.ap_live.proofs.nodes.push_found.Goals as goal

pub loop-place-init : goal.loop-place-init
loop-place-init c = record {
  grown = grows_none c.args.nodes.now.items;
  added = λ pick picked. adds_none c.args.fst.now.edges pick c.args.from c.args.back
      (HasLeftBelow c.args.fst.now.edges (Some c.args.left.now) c.span_by-first.result.0)
      c.args.nodes.now.items
      (λ s j p (l, lt). let le : c.span_by-first.result.0 ≤ j =
      (c.span_by-first.ensures.span.outside j p.edge p.at (sym p.from_is) (l p.edge p.at)).0 in
      absurd (omega arith));
}

pub loop-place-preserved : goal.loop-place-preserved
loop-place-preserved c =
    let place : ℕ = c.loop-place.place in
    let edge : Edge = c.index-edges-place.result in
    let end : c.span_by-first.result.1 ≤ length c.args.fst.now.edges =
    c.span_by-first.ensures.span.end in
    let same : length c.edges-edges.result.now ≡ length c.args.fst.now.edges =
    ap (length {A = Edge}) c.edges-edges.ensures.value in
    let at' : slice_get c.edges-edges.result.now place ≡ Some edge =
    slice_get_read c.edges-edges.result.now (length c.edges-edges.result.now) place edge
    refl (omega (arith, c.loop-place-test.true)) c.index-edges-place.is in
    let at : slice_get c.args.fst.now.edges place ≡ Some edge =
    ap (λ es. slice_get es place) (sym c.edges-edges.ensures.value) ∙ at' in
    let low : c.span_by-first.result.0 ≤ place = c.loop-place.auto.place in
    let by : (edge.from ≡ c.args.from) × (edge.label.left ≡ Some c.args.left.now) =
    c.span_by-first.ensures.span.inside place edge at low c.loop-place-test.true in
    record {
      grown = grows_more c.args.nodes.now.items c.loop-place.nodes.items c.push.new.self.items
          c.loop-place.invariant.grown
          (node edge.to place c.args.back ∷ [], c.in_ok-push.ensures.items);
      added = λ pick picked. adds_two c.args.fst.now.edges pick c.args.from c.args.back
          (HasLeftBelow c.args.fst.now.edges (Some c.args.left.now) place) (IsPlace place)
          (HasLeftBelow c.args.fst.now.edges (Some c.args.left.now) (place + 1))
          c.args.nodes.now.items c.loop-place.nodes.items c.push.new.self.items
          (λ s j p q. left_below c.args.fst.now.edges (Some c.args.left.now) place j q)
          (c.loop-place.invariant.added pick picked)
          (adds_edge c.args.fst.now.edges pick c.args.from c.args.back edge place at by.0 edge.to
          c.loop-place.nodes.items c.push.new.self.items refl (picked edge by.1)
          c.in_ok-push.ensures.items);
    }

pub returns-clause-added : goal.returns-clause-added
returns-clause-added c = λ pick picked. adds_seen c.args.fst.now.edges pick c.args.from c.args.back
    (HasLeftBelow c.args.fst.now.edges (Some c.args.left.now) c.loop-place.place)
    (HasLeft c.args.fst.now.edges (Some c.args.left.now)) c.args.nodes.now.items
    c.loop-place.nodes.items
    (λ s j p l. (
      l,
      (let lt : j < c.span_by-first.result.1 = (c.span_by-first.ensures.span.outside j p.edge p.at
          (sym p.from_is) (l p.edge p.at)).1 in
          omega (arith, c.loop-place-test.false)),
    )) (c.loop-place.invariant.added pick picked)
