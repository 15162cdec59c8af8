use Rattle.std.proofs.Common.{◌≡◌, ◌+◌, inl, inr, arith, refl, sym, ap, ◌∙◌, Some, slice_get, length, ◌<◌, ◌≤◌}
use Rattle.std.proofs.lemmas.Option.{slice_get_read}
use Rattle.std.specs.Option.{option_copied}
use Rattle.ap_fst.specs.declared.label.Edge.{Edge}
use Rattle.ap_live.specs.Fitting.{pick_of}
use Rattle.ap_live.specs.Spreads.{HasLeft, HasLeftBelow}
use Rattle.ap_live.proofs.Spreading.{spread_none, spread_more, spread_seen, below_or_at}
use Rattle.ap_live.proofs.rows.spread_left.Goals as goal

pub loop-at-init : goal.loop-at-init
loop-at-init c = spread_none _ _ _ _ _ _
    (λ s j p (l, lt). let le : c.span_by-first.result.0 ≤ j =
    (c.span_by-first.ensures.span.outside j p.edge p.at (sym p.from_is) (l p.edge p.at)).0 in
    absurd (omega arith))

pub loop-at-preserved : goal.loop-at-preserved
loop-at-preserved c =
    let edge : Edge = c.index-edges-at.result in
    let end : c.span_by-first.result.1 ≤ length c.args.fst.now.edges =
    c.span_by-first.ensures.span.end in
    let same : length c.edges-edges.result.now ≡ length c.args.fst.now.edges =
    ap (length {A = Edge}) c.edges-edges.ensures.value in
    let at' : slice_get c.edges-edges.result.now c.loop-at.at ≡ Some edge =
    slice_get_read c.edges-edges.result.now (length c.edges-edges.result.now) c.loop-at.at edge
    refl (omega (arith, c.loop-at-test.true)) c.index-edges-at.is in
    let at : slice_get c.args.fst.now.edges c.loop-at.at ≡ Some edge =
    ap (λ es. slice_get es c.loop-at.at) (sym c.edges-edges.ensures.value) ∙ at' in
    let by : (edge.from ≡ c.args.from) × (edge.label.left ≡ option_copied c.args.left) =
    c.span_by-first.ensures.span.inside c.loop-at.at edge at (omega arith) c.loop-at-test.true in
    spread_more c.args.fst.now.edges (pick_of c.args.pick) c.args.from c.loop-at.at edge
    (HasLeftBelow c.args.fst.now.edges (option_copied c.args.left) c.loop-at.at)
    (HasLeftBelow c.args.fst.now.edges (option_copied c.args.left) (c.loop-at.at + 1))
    c.args.states.now.items c.args.links.now.items c.loop-at.states.items c.loop-at.links.items
    c.add_arrival.new.states.items c.add_arrival.new.links.items by.0
    (λ k (l, lt). elim (below_or_at c.loop-at.at k lt) [
      | inl below ↦ inl (l, below)
      | inr same ↦ inr same
    ])
    c.loop-at.invariant (c.in_ok-add_arrival.ensures c.args.fst.now.edges edge at
    (ap (λ (z : Edge). z.to) c.index-edges-at.is)
    (c.requires edge by.1))

pub returns : goal.returns
returns c = spread_seen c.args.fst.now.edges (pick_of c.args.pick) c.args.from
    (HasLeftBelow c.args.fst.now.edges (option_copied c.args.left) c.loop-at.at)
    (HasLeft c.args.fst.now.edges (option_copied c.args.left))
    c.args.states.now.items c.args.links.now.items c.loop-at.states.items c.loop-at.links.items
    (λ s j p l. (
      l,
      (let lt : j < c.span_by-first.result.1 = (c.span_by-first.ensures.span.outside j p.edge p.at
          (sym p.from_is) (l p.edge p.at)).1 in
          omega (arith, c.loop-at-test.false)),
    )) c.loop-at.invariant
