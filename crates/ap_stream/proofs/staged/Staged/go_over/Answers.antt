use Rattle.std.proofs.Common.{arith, ◌∙◌, refl}
use Rattle.std.proofs.lemmas.Grind.{common_steps}
use Rattle.ap_stream.proofs.Copied.{front_on}
use Rattle.ap_stream.proofs.Stop.{take_on}
use Rattle.ap_stream.proofs.staged.Staged.go_over.Goals as goal

pub loop-used-init : goal.loop-used-init
loop-used-init g c =
    let same = c.begin.ensures.same in
    record {
      fits = omega arith;
      free = rw same c.requires.idle.free;
      reading = rw same c.requires.«open»;
      rest = λ x e. rw same refl;
      held = rw same refl;
      none = λ _. rw same c.requires.idle.empty;
      bounded = c.begin.ensures.bounded.0;
      short = c.begin.ensures.bounded.1;
    }

pub loop-used-preserved : goal.loop-used-preserved
loop-used-preserved g c =
    let i = c.loop-used.invariant in
    let a = c.in-Ok.ensures in
    record {
      fits = grind (arith, common_steps);
      free = a.free;
      reading = a.ended ∙ i.reading;
      rest = λ x e. rw (← take_on c.args.piece.now x c.loop-used.used c.in-Ok.count)
          (i.rest _ e ∙ a.rest x e);
      held = a.held ∙ i.held;
      none = λ z. absurd (c.if-count-eq0.false (omega (arith, z)));
      bounded = a.bounded.0;
      short = a.bounded.1;
    }

pub returns-in-Err-clause-front : goal.returns-in-Err-clause-front
returns-in-Err-clause-front g c = λ x e.
    let i = c.loop-used.invariant in
    rw c.in-Err.ensures.err.2 (front_on g.H.Handler.work c.args.self.now c.loop-used.self
    c.args.piece.now c.loop-used.used i.rest x e)
