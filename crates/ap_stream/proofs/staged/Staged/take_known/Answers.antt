use Rattle.std.proofs.Common.{ap, refl, Ok, ◌≡◌, ◌++◌}
use Rattle.ap_stream.specs.Rest.{rest_of}
use Rattle.ap_stream.proofs.staged.Staged.take_known.Goals as goal

pub returns-in-Ok-eq0-clause-front : goal.returns-in-Ok-eq0-clause-front
returns-in-Ok-eq0-clause-front g c =
    let zero : c.in-Ok-eq0.field-0 ≡ 0 =
    rw c.in-Ok-eq0.field-0-is at c.in-Ok-eq0.field-0-test in
    let same : c.go_on.new.self ≡ c.args.self.now = c.in-Ok-eq0.ensures.none (ap Ok zero) in
    rw same at c.take_runs-in-Ok-eq0.ensures.front

pub returns-in-Err-clause-front : goal.returns-in-Err-clause-front
returns-in-Err-clause-front g c = λ none x e. (
  (rest_of g.H.Handler.work c.args.self.now (c.args.piece.now ++ x) e).text,
  rw c.clear.ensures refl,
)
