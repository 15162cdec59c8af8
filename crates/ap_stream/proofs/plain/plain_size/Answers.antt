use Rattle.std.proofs.Common.{sym, ◌∙◌, arith}
use Rattle.ap_stream.proofs.PlainBytes.{stopped_at, goes_on, stopped_past}
use Rattle.ap_stream.proofs.plain.plain_size.Goals as goal

pub returns-then-is_stop-clause-value : goal.returns-then-is_stop-clause-value
returns-then-is_stop-clause-value c =
    stopped_at _ _ c.loop-at.invariant.on (omega (arith, c.loop-at-test.true))
    (sym c.is_stop.ensures ∙ c.if-is_stop.true)

pub loop-at-preserved : goal.loop-at-preserved
loop-at-preserved c = record {
  within = omega (arith, c.loop-at-test.true);
  on = goes_on _ _ c.loop-at.invariant.on (omega (arith, c.loop-at-test.true))
      (sym c.is_stop.ensures ∙ c.if-is_stop.false);
}

pub returns-clause-value : goal.returns-clause-value
returns-clause-value c =
    stopped_past _ _ c.loop-at.invariant.on (omega (arith, c.loop-at-test.false))
