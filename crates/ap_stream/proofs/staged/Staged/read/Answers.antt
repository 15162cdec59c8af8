use Rattle.std.proofs.Common.{ap, ◌∙◌, sym, ◌≡◌, ◌≤◌, false, None}
use Rattle.ap_stream.specs.Limits.{span_max}
use Rattle.ap_stream.specs.Given.{Shows}
use Rattle.ap_stream.specs.Seat.{Seat}
use Rattle.ap_stream.proofs.Stop as lemmas
use Rattle.ap_stream.proofs.staged.Staged.read.Goals as goal
use Rattle.ap_stream.proofs.staged.Staged.read.Goals.{After-begun}

-- the handler as it was found
same : (g : _) (c : After-begun g) → c.self.inside.handler ≡ c.args.self.now.handler
same g c = ap (λ (s : Seat _). s.handler) c.self.view_is

shown : (g : _) (c : After-begun g) →
    Shows c.in-Err.fault c.self.inside.reader c.args.piece.now c.feed.new.self
shown g c =
    let none : c.self.inside.fault ≡ None = ap (λ (s : Seat _). s.fault) c.self.view_is
    ∙ c.requires.going in
    let s = c.self.invariant.0 none in
    let unfinished : c.self.inside.finished ≡ false =
    sym s.agrees ∙ ap g.H.Handler.finished (same g c) ∙ c.requires.reading in
    c.in-Err.ensures.shown (s.reading unfinished) c.in_default.not-Memory

span : (g : _) (c : After-begun g) → g.H.Handler.held c.self.inside.handler ≤ span_max
span g c = rw (same g c) c.requires.span

none : (g : _) (c : After-begun g) → c.self.inside.fault ≡ None
none g c = ap (λ (s : Seat _). s.fault) c.self.view_is ∙ c.requires.going

unfinished : (g : _) (c : After-begun g) → g.H.Handler.finished c.self.inside.handler ≡ false
unfinished g c = ap g.H.Handler.finished (same g c) ∙ c.requires.reading

pub invariant_of-self-in_default : goal.invariant_of-self-in_default
invariant_of-self-in_default g c = (
  λ _. lemmas.sound_at_stop _ _ g.H.Handler.dialect g.H.Handler.work c.self.inside.handler _ _ _
      c.args.piece.now c.self.inside.finished c.self.inside.stop _ _
      (span g c) (shown g c) c.feed.ensures.holds c.finish.ensures.held c.finish.ensures.finished
      c.finish.ensures.dialect (c.self.invariant.0 (none g c)).reads_it,
  c.self.invariant.1,
  c.self.invariant.2,
)

pub returns-in_default : goal.returns-in_default
returns-in_default g c =
    let H = g.H.Handler in record {
      ended = ap (λ (s : Seat _). s.ended) c.self.view_is ∙ c.requires.«open»;
      pending = ap (λ (s : Seat _). s.pending) c.self.view_is ∙ c.requires.empty;
      going = none g c;
      count = lemmas.count_fits H.finished H.held H.dialect H.work _ _ c.finish.new.self _ _ _ _ _ _
          _ c.self.view_is (none g c) (shown g c) _ _ c.begun-before.ensures.count
          c.begun.ensures.count;
      rest = lemmas.seat_rest_at_stop H.finished H.held H.dialect H.work _ _ _ _ _ _ _ _ _ _
          c.self.view_is (none g c) (shown g c) _ _ c.begun-before.ensures.count
          c.begun.ensures.count c.finish.ensures.work;
      held = lemmas.held_is H.finished H.held H.dialect H.work _ _ _ _ _ _ _ _ _ _ c.self.view_is
          (none g c) (shown g c) _ _ c.begun-before.ensures.count c.begun.ensures.count
          c.finish.ensures.held;
      falls = lemmas.falls H.finished H.held H.dialect H.work _ _ _ _ _ _ _ _ _ _ c.self.view_is
          (none g c) (shown g c) _ _ c.begun-before.ensures.count c.begun.ensures.count
          c.finish.ensures.held c.finish.ensures.finished (unfinished g c) c.requires.piece;
      err = tt;
    }
