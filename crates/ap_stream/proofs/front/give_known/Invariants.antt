use Rattle.std.proofs.Common.{◌≡◌, ◌+◌, ◌-◌, ◌≤◌, take, length}
use Rattle.ap_stream.specs.Fronts.{GivesFront}
use Rattle.ap_stream.proofs.front.give_known.Given as goal

abbrev pub invariant-loop-room : goal.invariant-loop-room
invariant-loop-room g l = record {
  within : l.used ≤ l.seen;
  near : l.seen ≤ l.used + 1;
  most : l.seen ≤ length l.text;
  short : length l.given ≤ 12288;
  same : l.handler ≡ l.fn.handler;
  gives : GivesFront g.H.Handler.work (g.H.Handler.dialect l.fn.handler) l.fn.handler
      (take l.seen l.text) l.used l.given;
}

abbrev pub decreases-loop-room : goal.decreases-loop-room
decreases-loop-room g l = length l.text - l.used
