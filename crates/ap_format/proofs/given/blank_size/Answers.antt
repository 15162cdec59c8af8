use Rattle.std.proofs.Common.{arith}
use Rattle.std.proofs.lemmas.List.{take_rest}
use Rattle.std.proofs.lemmas.Grind.{common_steps}
use Rattle.ap_format.proofs.Plains.{blank_more}
use Rattle.ap_format.proofs.given.blank_size.Goals as goal

pub loop-at-preserved : goal.loop-at-preserved
loop-at-preserved c = record {
  within = grind (arith, common_steps);
  blank = λ _.
      blank_more c.args.bytes.now c.loop-at.at c.part_size-size.result c.loop-at.invariant.blank
      (rw take_rest at (c.part_size-size.ensures.blank (omega (arith, c.if-size-eq0.false))));
}
