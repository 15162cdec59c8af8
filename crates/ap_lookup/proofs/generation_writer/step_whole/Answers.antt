use Rattle.std.proofs.Common.{take, arith}
use Rattle.ap_lookup.proofs.Translations as laws
use Rattle.ap_lookup.proofs.generation_writer.step_whole.Goals as goal

pub loop-at-preserved : goal.loop-at-preserved
loop-at-preserved c = record {
  fits = omega (arith, c.loop-at-test.true);
  lives = laws.live_more c.args.compiled.now c.args.sensitive c.args.symbols.now c.loop-at.at
      c.index-symbols-at.result c.loop-at-test.true c.index-symbols-at.is c.step.new.self
      (c.in_ok-step.ensures.ok (take c.loop-at.at c.args.symbols.now) c.loop-at.invariant.lives);
}
