use Rattle.std.proofs.Common.{sym, ◌∙◌, arith}
use Rattle.ap_format.proofs.Runs.{stopped_at, goes_on, stopped_past}
use Rattle.ap_format.proofs.copied.white_size.Goals as goal

pub returns-then-not-is_white-clause-value : goal.returns-then-not-is_white-clause-value
returns-then-not-is_white-clause-value c =
    stopped_at _ _ c.loop-at.invariant.on (omega (arith, c.loop-at-test.true))
    (sym c.is_white.ensures ∙ c.if-not-is_white.true)

pub loop-at-preserved : goal.loop-at-preserved
loop-at-preserved c = record {
  within = omega (arith, c.loop-at-test.true);
  on = goes_on _ _ c.loop-at.invariant.on (omega (arith, c.loop-at-test.true))
      (sym c.is_white.ensures ∙ c.if-not-is_white.false);
}

pub returns-clause-value : goal.returns-clause-value
returns-clause-value c =
    stopped_past _ _ c.loop-at.invariant.on (omega (arith, c.loop-at-test.false))
