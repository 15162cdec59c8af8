use Rattle.std.proofs.Common.{◌≡◌, ℕ, ◌+◌, ◌-◌, ◌≤◌, List, [], ◌++◌, take, length, false, None}
use Rattle.ap_stream.specs.Rest.{rest_of, measure}
use Rattle.ap_stream.specs.Told.{Ending}
use Rattle.ap_stream.proofs.staged.Staged.run.Given as goal

abbrev pub invariant-loop-used : goal.invariant-loop-used
invariant-loop-used g l = record {
  fits : l.used ≤ length l.piece;
  going : l.self.fault ≡ None;
  reading : l.self.ended ≡ false;
  empty : l.self.pending ≡ [];
  rest : (x : List ℕ) (e : Ending) →
      rest_of g.H.Handler.work l.fn.self (take l.used l.piece ++ x) e
      ≡ rest_of g.H.Handler.work l.self x e;
  held : g.H.Handler.held l.self.handler + length l.self.begun
      ≡ g.H.Handler.held l.fn.self.handler + length l.fn.self.begun + l.used;
  falls : measure g.H.Handler.finished g.H.Handler.held l.self (length l.piece - l.used)
      ≤ measure g.H.Handler.finished g.H.Handler.held l.fn.self (length l.piece);
}

abbrev pub decreases-loop-used : goal.decreases-loop-used
decreases-loop-used g l = length l.piece - l.used
