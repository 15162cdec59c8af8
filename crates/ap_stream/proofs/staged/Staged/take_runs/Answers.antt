use Rattle.std.proofs.Common.{arith, ◌∙◌, sym, ◌≡◌, ◌++◌, true}
use Rattle.std.proofs.lemmas.Bool.{false≢true}
use Rattle.std.proofs.lemmas.Grind.{common_steps}
use Rattle.ap_stream.specs.Rest.{rest_of}
use Rattle.ap_stream.proofs.Stop.{front_err, take_on}
use Rattle.ap_stream.proofs.staged.Staged.take_runs.Goals as goal

pub returns-in_err-work-clause-front : goal.returns-in_err-work-clause-front
returns-in_err-work-clause-front g c =
    front_err _ _ _ (λ x e. (rest_of g.H.Handler.work c.args.self.now (c.args.piece.now ++ x)
    e).text) c.in_err-work.ensures.err.1

pub returns-in_err-used-in-Wants-clause-front : goal.returns-in_err-used-in-Wants-clause-front
returns-in_err-used-in-Wants-clause-front g c =
    front_err _ _ _ (λ x e. (rest_of g.H.Handler.work c.args.self.now (c.args.piece.now ++ x)
    e).text) c.read_run.ensures.pending

pub loop-self-preserved : goal.loop-self-preserved
loop-self-preserved g c = record {
  fits = grind (arith, common_steps);
  going = grind (arith, common_steps);
  reading = grind (arith, common_steps);
  rest = λ x e.
      let k = c.in_ok-used-in-Wants.field-0 in
      let i = c.loop-self.invariant in
      let no : c.loop-self.self.ended ≡ true → ⊥ = λ t. absurd (false≢true (sym i.reading ∙ t)) in
      rw (← take_on c.args.piece.now x c.loop-self.used k)
      (i.rest _ e ∙ c.in_ok-work.ensures.rest _ e (λ t. absurd (no t))
      ∙ c.in_ok-used-in-Wants.ensures.rest x e);
  held = grind (arith, common_steps);
  rank = grind (arith, common_steps);
}
