use Rattle.std.proofs.Common.{arith, ◌≡◌, ℕ, List, min, length, take}
use Rattle.std.proofs.lemmas.List.{take-take, length-take}
use Rattle.ap_stream.specs.Copying.{IsRun}
use Rattle.ap_stream.proofs.Copied.{run_gives}
use Rattle.ap_stream.proofs.copying.copy_run.Goals as goal

pub returns-clause-gives : goal.returns-clause-gives
returns-clause-gives g c = λ some.
    let piece : List ℕ = c.args.piece.now in
    let count : ℕ = c.copied_run-count.result in
    let dialect = g.H.Handler.dialect c.args.handler.now in
    let cut : length (take c.min-most.result piece) ≡ min c.min-most.result (length piece) =
    length-take c.min-most.result piece in
    let most = c.copied_run-count.ensures.most in
    let same : take count (take c.min-most.result piece) ≡ take count piece =
    take-take count c.min-most.result piece (omega (arith, cut, most)) in
    let runs : IsRun dialect (take count piece) =
    rw same at (c.copied_run-count.ensures.run dialect) in
    rw (c.in_ok-extend.ensures.ok, c.requires.empty)
    (run_gives g.H.Handler.count g.H.Handler.work c.requires.copies dialect c.args.handler.now
    c.requires.none (take count piece) runs)
