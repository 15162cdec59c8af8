use Rattle.std.proofs.Common.{arith, ap, sym, subst, ◌∙◌, ◌≡◌, ℕ, min, List, ◌++◌, length, take}
use Rattle.std.proofs.lemmas.List.{take-take, length-take, length-take-le}
use Rattle.ap_stream.specs.Copying.{IsRun, Gives}
use Rattle.ap_stream.specs.Seat.{Seat}
use Rattle.ap_stream.proofs.Copied as lemmas
use Rattle.ap_stream.proofs.staged.Staged.copy.Goals as goal

pub returns-clause-rest : goal.returns-clause-rest
returns-clause-rest g c = λ some.
    let piece : List ℕ = c.args.piece.now in
    let count : ℕ = c.copied_run-count.result in
    let idle = c.is_free.ensures.idle c.if-not-is_free.false in
    let copies = c.is_free.ensures.copies c.if-not-is_free.false in
    let place : c.args.self.now.place ≡ c.self.inside.reader.place =
    sym (ap (λ (s : Seat _). s.place) c.self.view_is) in
    let cut : length (take c.min-most.result piece) ≡ min c.min-most.result (length piece) =
    length-take c.min-most.result piece in
    let most = c.copied_run-count.ensures.most in
    let size : length (take count piece) ≡ count =
    length-take-le count piece (omega (arith, cut, most)) in
    let same : take count (take c.min-most.result piece) ≡ take count piece =
    take-take count c.min-most.result piece (omega (arith, cut, most)) in
    let runs : IsRun c.args.self.now.dialect (take count piece) =
    rw same at (c.copied_run-count.ensures.run c.args.self.now.dialect) in
    let gives = lemmas.run_gives g.H.Handler.count g.H.Handler.work copies
    c.args.self.now.dialect c.args.self.now.handler idle.free.none (take count piece) runs in
    lemmas.rest_given g.H.Handler.count g.H.Handler.work copies c.args.self.now
    (record {
      handler = _;
      dialect = _;
      begun = _;
      place = _;
      pending = _;
      ended = c.self.inside.ended;
      fault = _;
    })
    (take count piece) (take count piece)
    (subst (λ h. Gives g.H.Handler.work c.args.self.now.dialect c.args.self.now.handler h
    (take count piece) (take count piece)) (sym (ap (λ (s : Seat _). s.handler) c.self.view_is)) gives)
    idle.free.going idle.free.begun (rw place c.pass.ensures.counts)
    (c.pass.ensures.dialect ∙ ap (λ (s : Seat _). s.dialect) c.self.view_is)
    (ap (λ (s : Seat _). s.fault) c.self.view_is ∙ idle.free.going)
    (c.in-Ok.ensures.ok ∙ ap (λ (q : List ℕ). q ++ take count piece) (c.clear.ensures ∙ sym idle.empty))
    c.pass.ensures.held (rw (place, size) c.pass.ensures.place)
