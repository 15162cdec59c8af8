use Rattle.std.proofs.Common.{◌≡◌, ◌+◌, ◌<◌, ◌≤◌, [], ◌∷◌, ap, arith, length, refl, slice_get, subst, sym, ◌∙◌, Some}
use Rattle.std.proofs.lemmas.Option.{slice_get_read}
use Rattle.ap_fst.specs.declared.label.Edge.{Edge}
use Rattle.ap_live.specs.Fitting.{pick_of}
use Rattle.ap_live.specs.Spreads.{AnyPlace, IsPlace, PlaceBelow}
use Rattle.ap_live.specs.Trails.{AddsNodes, Grows, node}
use Rattle.ap_live.proofs.NodeLaws.{adds_edge, adds_seen, adds_skip, adds_two, grows_more}
use Rattle.ap_live.proofs.Spreading.{below_or_at}
use Rattle.ap_live.proofs.nodes.push_picked.Goals.{then-is_picked+in_ok-push, else-is_picked}
use Rattle.ap_live.proofs.nodes.push_picked.Goals as goal

pub loop-place-preserved : goal.loop-place-preserved
loop-place-preserved c =
    let edge : Edge = c.index-edges-place.result in
    let end : c.loop-place.place < length c.args.edges.now =
    omega (arith, c.loop-place-test.true, c.min-last.ensures) in
    let low : c.loop-place.place < c.args.last =
    omega (arith, c.loop-place-test.true, c.min-last.ensures) in
    let at : slice_get c.args.edges.now c.loop-place.place ≡ Some edge =
    slice_get_read c.args.edges.now (length c.args.edges.now) c.loop-place.place edge refl end
    c.index-edges-place.is in
    record {
      grown = elim c.if-is_picked.branch [
        | then-is_picked+in_ok-push w ↦ grows_more c.args.nodes.now.items c.loop-place.nodes.items
            c.if-is_picked.nodes.items c.loop-place.invariant.grown (
              node edge.to c.loop-place.place c.args.back ∷ [],
              ap (λ z. z.items) w.nodes-is ∙ w.in_ok-push.ensures.items,
            )
        | else-is_picked w ↦ subst (Grows c.args.nodes.now.items)
            (sym (ap (λ z. z.items) w.nodes-is)) c.loop-place.invariant.grown
      ];
      added = λ from span.
          let leaves : edge.from ≡ from =
          span.inside c.loop-place.place edge at (omega arith) low in
          adds_two c.args.edges.now (pick_of c.args.pick) from c.args.back
          (PlaceBelow c.loop-place.place) (IsPlace c.loop-place.place)
          (PlaceBelow (c.loop-place.place + 1)) c.args.nodes.now.items c.loop-place.nodes.items
          c.if-is_picked.nodes.items (λ s j p q. below_or_at c.loop-place.place j q)
          (c.loop-place.invariant.added from span) (elim c.if-is_picked.branch [
            | then-is_picked+in_ok-push w ↦
                adds_edge c.args.edges.now (pick_of c.args.pick) from c.args.back edge
                c.loop-place.place at leaves edge.to c.loop-place.nodes.items
                c.if-is_picked.nodes.items refl (sym w.if-is_picked.ensures)
                (ap (λ z. z.items) w.nodes-is ∙ w.in_ok-push.ensures.items)
            | else-is_picked w ↦
                subst (AddsNodes c.args.edges.now (pick_of c.args.pick) from
                (IsPlace c.loop-place.place) c.args.back c.loop-place.nodes.items)
                (sym (ap (λ z. z.items) w.nodes-is))
                (adds_skip c.args.edges.now (pick_of c.args.pick) from c.args.back edge
                c.loop-place.place at leaves c.loop-place.nodes.items (sym w.if-is_picked.ensures))
          ]);
    }

pub returns-clause-added : goal.returns-clause-added
returns-clause-added c = λ from span. adds_seen c.args.edges.now (pick_of c.args.pick) from
    c.args.back (PlaceBelow c.loop-place.place) AnyPlace c.args.nodes.now.items
    c.loop-place.nodes.items
    (λ s j p any. let lt : j < c.args.last = (span.outside j p.edge p.at (sym p.from_is)).1 in
    let end : c.args.last ≤ length c.args.edges.now = span.end in
    omega (arith, c.loop-place-test.false, c.min-last.ensures))
    (c.loop-place.invariant.added from span)
