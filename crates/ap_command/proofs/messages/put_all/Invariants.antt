use Rattle.std.proofs.Common.{◌≡◌, take, map}
use Rattle.ap_command.specs.Messages.{joined}
use Rattle.ap_outside.specs.Told.{Puts}
use Rattle.ap_command.proofs.messages.put_all.Given as goal

abbrev pub invariant-loop-piece : goal.invariant-loop-piece
invariant-loop-piece g l = record {
  put : Puts (g.K.Sink.written l.fn.sink) (g.K.Sink.written l.sink)
      (joined (map (λ p. p.now) (take l.piece-index l.pieces)));
  calm : g.K.Sink.faults l.sink ≡ g.K.Sink.faults l.fn.sink;
}
