use Rattle.std.proofs.Common.{Bor, List, ℕ, take, drop, suc, map, arith, refl, subst, sym, ◌∙◌}
use Rattle.ap_command.specs.Messages.{joined}
use Rattle.ap_command.proofs.Told.{puts-then-front, joined-at, joined-more, puts-then, puts-nothing, on-err, on-ok}
use Rattle.ap_outside.specs.Told.{Puts}
use Rattle.ap_command.proofs.messages.put_all.Goals as goal

pub returns-then-is_err-clause-failed : goal.returns-then-is_err-clause-failed
returns-then-is_err-clause-failed g c =
    puts-then-front (g.K.Sink.written c.args.sink.now) (g.K.Sink.written c.loop-piece.sink)
    (g.K.Sink.written c.put.new.self)
    (joined (map (λ (p : Bor (List ℕ)). p.now) (take c.loop-piece.piece-index c.args.pieces.now))) _
    _ (joined (map (λ (p : Bor (List ℕ)). p.now)
    (drop (suc c.loop-piece.piece-index) c.args.pieces.now)))
    c.loop-piece.invariant.put
    (on-err c.put.result _ c.put.ensures.failed c.if-is_err.ensures.value)
    (joined-at c.args.pieces.now c.loop-piece.piece-index _ (omega arith))

pub loop-piece-init : goal.loop-piece-init
loop-piece-init g c = record { put = puts-nothing (g.K.Sink.written c.args.sink.now); calm = refl }

pub loop-piece-preserved : goal.loop-piece-preserved
loop-piece-preserved g c = record {
  put = subst (λ t. Puts (g.K.Sink.written c.args.sink.now) (g.K.Sink.written c.put.new.self) t)
      (sym (joined-more c.args.pieces.now c.loop-piece.piece-index _ (omega arith)))
      (puts-then (g.K.Sink.written c.args.sink.now) (g.K.Sink.written c.loop-piece.sink)
      (g.K.Sink.written c.put.new.self) _ _ c.loop-piece.invariant.put
      (on-ok c.put.result _ c.put.ensures.ok c.if-is_err.ensures.negation));
  calm = on-ok c.put.result _ c.put.ensures.cause.stays c.if-is_err.ensures.negation
      ∙ c.loop-piece.invariant.calm;
}
