use Rattle.std.proofs.Common.{◌≡◌, ◌-◌, ◌≤◌, take, length}
use Rattle.ap_stream.specs.Fronts.{GivesFront}
use Rattle.ap_stream.proofs.front.give_near.Given as goal

abbrev pub invariant-loop-handler : goal.invariant-loop-handler
invariant-loop-handler g l = record {
  within : l.used ≤ l.seen;
  most : l.seen ≤ length l.piece;
  short : length l.given ≤ 8192;
  same : l.handler ≡ l.fn.handler;
  gives : GivesFront g.H.Handler.work (g.H.Handler.dialect l.fn.handler) l.fn.handler
      (take l.seen l.piece) l.used l.given;
}

abbrev pub decreases-loop-handler : goal.decreases-loop-handler
decreases-loop-handler g l = length l.piece - l.used
