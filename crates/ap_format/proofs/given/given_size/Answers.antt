use Rattle.std.proofs.Common.{arith}
use Rattle.std.proofs.lemmas.List.{take_rest}
use Rattle.std.proofs.lemmas.Grind.{common_steps}
use Rattle.ap_format.proofs.Plains.{given_more}
use Rattle.ap_format.proofs.given.given_size.Goals as goal

pub loop-at-preserved : goal.loop-at-preserved
loop-at-preserved c = record {
  within = grind (arith, common_steps);
  gives = λ _.
      given_more c.args.bytes.now c.loop-at.at c.front_size-size.result c.loop-at.invariant.gives
      (rw take_rest at (c.front_size-size.ensures.gives (omega (arith, c.if-size-eq0.false))));
}
