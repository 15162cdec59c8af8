use Rattle.std.proofs.Common.{arith, slice_get}
use Rattle.ap_trim.proofs.Adding.{span_begun, span_on, span_all}
use Rattle.ap_trim.proofs.reading.add_span.Goals as goal

pub loop-place-init : goal.loop-place-init
loop-place-init c = record {
  bound = omega arith;
  added =
      span_begun (slice_get c.args.edges.now) c.args.low c.args.targets.now.items;
}

pub loop-place-preserved : goal.loop-place-preserved
loop-place-preserved c = record {
  bound = omega arith;
  added = span_on (slice_get c.args.edges.now) c.args.low c.loop-place.place
      c.args.targets.now.items c.loop-place.targets.items c.add_target.new.targets.items
      c.loop-place.auto.place c.loop-place.invariant.added c.in_ok-add_target.ensures;
}

pub returns : goal.returns
returns c = span_all (slice_get c.args.edges.now) c.args.low c.args.high c.loop-place.place
    c.args.targets.now.items c.loop-place.targets.items c.loop-place.invariant.bound
    c.loop-place-test.false c.loop-place.invariant.added
