use Rattle.std.proofs.Common.{◌≡◌, ℕ, ◌+◌, ◌-◌, ◌<◌, ◌≤◌, List, ◌++◌, take, length, false, None}
use Rattle.ap_stream.specs.Told.{Ending}
use Rattle.ap_stream.specs.Rest.{rest_of, measure}
use Rattle.ap_stream.proofs.staged.Staged.take_runs.Given as goal

abbrev pub invariant-loop-self : goal.invariant-loop-self
invariant-loop-self g l = record {
  fits : l.used ≤ length l.piece;
  going : l.self.fault ≡ None;
  reading : l.self.ended ≡ false;
  rest : (x : List ℕ) (e : Ending) →
      rest_of g.H.Handler.work l.initial.self (take l.used l.piece ++ x) e
      ≡ rest_of g.H.Handler.work l.self x e;
  held : g.H.Handler.held l.self.handler + length l.self.begun ≤ g.H.Handler.held
      l.initial.self.handler + length l.initial.self.begun + l.used;
  rank : l.used ≡ 0 → length l.initial.self.pending < length l.self.pending →
      g.H.Handler.held l.self.handler + length l.self.begun < g.H.Handler.held
      l.initial.self.handler + length l.initial.self.begun;
}

abbrev pub decreases-loop-self : goal.decreases-loop-self
decreases-loop-self g l =
    measure g.H.Handler.finished g.H.Handler.held l.self (length l.initial.piece - l.used)
