use Rattle.std.proofs.Common.{ap, arith, length, []}
use Rattle.std.proofs.lemmas.Grind.{common_steps}
use Rattle.std.proofs.lemmas.List.{take_rest}
use Rattle.std.proofs.Math.Seq.{take-add}
use Rattle.ap_format.proofs.Taken.{takes_none, takes_on}
use Rattle.ap_format.proofs.reformatter.give_piece.Goals as goal

pub loop-used-init : goal.loop-used-init
loop-used-init c = record {
  within = omega arith;
  takes = rw c.requires.empty (takes_none c.args.reformatter.now []);
  sound = c.requires.sound;
  short = rw c.requires.empty (omega arith);
  most = c.requires.most;
}

pub loop-used-preserved : goal.loop-used-preserved
loop-used-preserved c = record {
  within = grind (arith, common_steps);
  takes = rw take-add
      (takes_on _ _ _ _ _ _ _ _ c.loop-used.invariant.takes
      (rw take_rest at c.in-Ok.ensures.takes));
  sound = c.in-Ok.ensures.sound;
  short = omega (
    arith,
    c.in-Ok.ensures.short,
    ap length c.as_slice.ensures,
    c.if-as_slice-lt-WRITTEN_AT_ONCE.true,
  );
  most = c.in-Ok.ensures.most;
}
