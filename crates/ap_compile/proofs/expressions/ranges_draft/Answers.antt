use Rattle.std.proofs.Common.{inl, refl, arith}
use Rattle.ap_compile.proofs.Spanning.{class_none, class_more, covered_more, class_all}
use Rattle.ap_compile.proofs.expressions.ranges_draft.Goals as goal

pub loop-range-init : goal.loop-range-init
loop-range-init c = record {
  exact =
      class_none c.args.ranges.now c.in_ok-made.made c.in_ok-made.ensures;
  covered = inl refl;
}

pub loop-range-preserved : goal.loop-range-preserved
loop-range-preserved c = let a = c.max-start.ensures in let b = c.max-next.ensures in let e =
    c.in_ok-made-2.ensures in record {
      exact = class_more c.args.ranges.now c.loop-range.range-index c.loop-range.next
          c.max-start.result
          c.loop-range.made c.in_ok-made-2.made c.requires c.loop-range-test.true
          c.loop-range.invariant.covered (omega arith) c.loop-range.invariant.exact
          c.in_ok-made-2.ensures;
      covered = covered_more c.args.ranges.now c.loop-range.range-index c.loop-range.next
          c.max-next.result c.loop-range.invariant.covered (omega arith);
    }

pub returns : goal.returns
returns c = class_all c.args.ranges.now c.loop-range.range-index c.loop-range.made
    c.loop-range-test.false c.loop-range.invariant.exact
