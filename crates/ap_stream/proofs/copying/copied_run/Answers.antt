use Rattle.std.proofs.Common.{arith, length-drop}
use Rattle.std.proofs.lemmas.List.{take_rest}
use Rattle.ap_stream.proofs.Copied.{none_runs, run_on}
use Rattle.ap_stream.proofs.copying.copied_run.Goals as goal

pub loop-at-init : goal.loop-at-init
loop-at-init c = record { fits = omega arith; run = none_runs }

pub loop-at-preserved : goal.loop-at-preserved
loop-at-preserved c = record {
  fits = let m = rw take_rest at c.step_size-size.ensures.most in
      let l = length-drop c.loop-at.at c.args.bytes.now in
      let f = c.loop-at.invariant.fits in omega (arith, m, l, f);
  run = λ dialect. run_on dialect c.args.bytes.now c.loop-at.at c.step_size-size.result
      (c.loop-at.invariant.run dialect) (rw take_rest at (c.step_size-size.ensures.run dialect));
}
