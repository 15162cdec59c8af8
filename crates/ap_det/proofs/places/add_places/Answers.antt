use Rattle.std.proofs.Common.{arith}
use Rattle.ap_det.proofs.Sorting.{added_begun, added_on, added_span}
use Rattle.ap_det.proofs.places.add_places.Goals as goal

pub loop-place-init : goal.loop-place-init
loop-place-init c = record {
  bound = omega arith;
  added =
      added_begun c.span_near-low.result.0 c.args.places.now.items;
}

pub loop-place-preserved : goal.loop-place-preserved
loop-place-preserved c = record {
  bound = omega arith;
  added = added_on c.span_near-low.result.0 c.loop-place.place c.args.places.now.items
      c.loop-place.places.items c.push.new.self.items c.loop-place.auto.place
      c.loop-place.invariant.added c.in_ok-push.ensures.items;
}

pub returns : goal.returns
returns c = added_span c.args.fst.now.edges c.args.state c.span_near-low.result.0
    c.span_near-low.result.1 c.loop-place.place c.args.places.now.items c.loop-place.places.items
    c.span_near-low.ensures.span c.loop-place.invariant.added c.loop-place.invariant.bound
    c.loop-place-test.false
