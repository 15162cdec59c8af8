use Rattle.std.proofs.Common.{arith, sym, ◌∙◌}
use Rattle.std.proofs.lemmas.List.{take_rest}
use Rattle.std.proofs.lemmas.Grind.{common_steps}
use Rattle.ap_format.proofs.Plains.{bracket_within, closes_blank, goes_within}
use Rattle.ap_format.proofs.given.superblank_size.Goals as goal

pub loop-at-init : goal.loop-at-init
loop-at-init c = record {
  fits = omega (arith, c.requires.some);
  within = bracket_within c.args.bytes.now c.requires.some c.requires.begins;
}

pub returns-then-closes-clause-blank : goal.returns-then-closes-clause-blank
returns-then-closes-clause-blank c = λ _.
    let whole = c.whole_size-size.ensures.whole (omega (arith, c.if-size-eq0.false)) in
    closes_blank c.args.bytes.now c.loop-at.at c.loop-at.escaped c.loop-at.invariant.within
    c.whole_size-size.result whole.0 (rw take_rest at whole.1)
    (rw take_rest at (sym c.closes.ensures ∙ c.if-closes.true))

pub loop-at-preserved : goal.loop-at-preserved
loop-at-preserved c = record {
  fits = grind (arith, common_steps);
  within =
      let whole = c.whole_size-size.ensures.whole (omega (arith, c.if-size-eq0.false)) in
      rw (c.escapes-escaped.ensures, take_rest)
      (goes_within c.args.bytes.now c.loop-at.at c.loop-at.escaped c.loop-at.invariant.within
      c.whole_size-size.result whole.0 (rw take_rest at whole.1)
      (rw take_rest at (sym c.closes.ensures ∙ c.if-closes.false)));
}
