use Rattle.std.proofs.Common.{inl, inr, refl, arith}
use Rattle.ap_compile.proofs.Spanning.{span_none, span_more, span_over}
use Rattle.ap_compile.proofs.expressions.with_span.Goals as goal

pub loop-code-init : goal.loop-code-init
loop-code-init c = record { span = span_none c.args.first c.args.made; bound = inl refl }

pub loop-code-preserved : goal.loop-code-preserved
loop-code-preserved c = record {
  span =
      span_more c.args.first c.loop-code.code c.args.made c.loop-code.all c.in_ok-all.all
      (omega arith) c.loop-code.invariant.span c.in_ok-all.ensures;
  bound = inr (omega arith);
}

pub returns : goal.returns
returns c = span_over c.args.first c.args.end c.loop-code.code c.args.made c.loop-code.all
    (omega arith) c.loop-code.invariant.bound c.loop-code.invariant.span
