use Rattle.std.proofs.Common.{◌≡◌, ◌+◌, ◌<◌, ◌≤◌, [], length, true, None}
use Rattle.ap_stream.specs.Told.{Clean}
use Rattle.ap_stream.specs.Rest.{rest_of, measure}
use Rattle.ap_stream.proofs.staged.StagedStage.end.Given as goal

abbrev pub invariant-loop-self : goal.invariant-loop-self
invariant-loop-self g l = record {
  going : l.self.fault ≡ None;
  ended : l.self.ended ≡ true;
  rest : rest_of g.H.Handler.work l.fn.self [] Clean ≡ rest_of g.H.Handler.work l.self [] Clean;
  held : g.H.Handler.held l.self.handler + length l.self.begun ≤ g.H.Handler.held l.fn.self.handler
      + length l.fn.self.begun;
  rank : length l.fn.self.pending < length l.self.pending →
      g.H.Handler.held l.self.handler + length l.self.begun < g.H.Handler.held l.fn.self.handler +
      length l.fn.self.begun;
}

abbrev pub decreases-loop-self : goal.decreases-loop-self
decreases-loop-self g l = measure g.H.Handler.finished g.H.Handler.held l.self 0
