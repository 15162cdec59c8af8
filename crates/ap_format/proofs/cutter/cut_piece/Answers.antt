use Rattle.std.proofs.Common.{ap, arith, sym, refl, length, append-nil, []}
use Rattle.std.proofs.lemmas.Grind.{common_steps}
use Rattle.std.proofs.lemmas.List.{take_rest}
use Rattle.std.proofs.Math.Seq.{take-add}
use Rattle.ap_format.proofs.Moving.{cuts_held, cuts_on}
use Rattle.ap_format.proofs.cutter.cut_piece.Goals as goal

pub loop-used-init : goal.loop-used-init
loop-used-init c = record {
  within = omega arith;
  cuts = rw c.requires.empty
      (cuts_held c.args.cutter.now c.args.cutter.now [] [] (sym (append-nil _)) refl);
  none = λ _. c.requires.empty;
  short = rw c.requires.empty (omega arith);
  most = c.requires.most;
}

pub loop-used-preserved : goal.loop-used-preserved
loop-used-preserved c = record {
  within = grind (arith, common_steps);
  cuts = rw take-add
      (cuts_on _ _ _ _ _ _ _ _ c.loop-used.invariant.cuts (rw take_rest at c.in-Ok.ensures.cuts));
  none = λ e. absurd (omega (arith, e, c.in-Ok.ensures.count.0));
  short = omega (
    arith,
    c.in-Ok.ensures.short,
    ap length c.as_slice.ensures,
    c.if-as_slice-lt-GIVEN_AT_ONCE.true,
  );
  most = c.in-Ok.ensures.most;
}
