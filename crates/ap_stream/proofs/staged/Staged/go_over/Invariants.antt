use Rattle.std.proofs.Common.{◌≡◌, ℕ, ◌-◌, ◌≤◌, List, [], ◌++◌, take, length, false}
use Rattle.ap_stream.specs.Limits.{stage_max}
use Rattle.ap_stream.specs.Copying.{IsOpen}
use Rattle.ap_stream.specs.Rest.{rest_of, held_of}
use Rattle.ap_stream.specs.Told.{Ending}
use Rattle.ap_stream.proofs.staged.Staged.go_over.Given as goal

abbrev pub invariant-loop-used : goal.invariant-loop-used
invariant-loop-used g l = record {
  fits : l.used ≤ length l.piece;
  free : IsOpen g.H.Handler.finished g.H.Handler.count l.self;
  reading : l.self.ended ≡ false;
  rest : (x : List ℕ) (e : Ending) →
      rest_of g.H.Handler.work l.fn.self (take l.used l.piece ++ x) e
      ≡ rest_of g.H.Handler.work l.self x e;
  held : g.H.Handler.held l.self.handler ≡ g.H.Handler.held l.fn.self.handler;
  none : l.used ≡ 0 → l.self.pending ≡ [];
  bounded : held_of g.H.Handler.held l.self ≤ stage_max;
  short : length l.self.pending ≤ stage_max;
}

abbrev pub decreases-loop-used : goal.decreases-loop-used
decreases-loop-used g l = length l.piece - l.used
