use Rattle.std.proofs.Common.{arith, ◌∙◌}
use Rattle.std.proofs.lemmas.Grind.{common_steps}
use Rattle.ap_stream.proofs.Stop.{take_on}
use Rattle.ap_stream.proofs.staged.Staged.run.Goals as goal

pub loop-used-preserved : goal.loop-used-preserved
loop-used-preserved g c =
    let i = c.loop-used.invariant in
    let a = c.in-Ok.ensures in
    record {
      fits = grind (arith, common_steps);
      going = grind (arith, common_steps);
      reading = a.ended;
      empty = a.pending;
      rest = λ x e. rw (← take_on c.args.piece.now x c.loop-used.used c.in-Ok.count)
          (i.rest _ e ∙ a.rest x e);
      held = grind (arith, common_steps);
      falls = grind (arith, common_steps);
    }
