use Rattle.std.proofs.Common.{◌∙◌, ap, Ok, inl, inr}
use Rattle.ap_chunk.proofs.Fronts.{waits_all, waits_grows, look_found}
use Rattle.ap_chunk.proofs.search.Search.look.Goals as goal
use Rattle.ap_chunk.proofs.search.Search.look.Goals.{else-not-ends-via-then-not-ends+else-not-finished, else-not-ends-via-else-not-ends}

pub returns-then-not-finished-clause-all : goal.returns-then-not-finished-clause-all
returns-then-not-finished-clause-all c = λ e.
    waits_all c.args.rules.now c.args.reads.now c.step_on.new.self (c.step_on.ensures.patterns
    ∙ c.set_out.ensures.patterns
    ∙ c.requires.known.patterns) (c.in_ok-ends.ensures.all (ap Ok c.if-not-ends.true))
    (c.in_ok-ends.ensures.at (ap Ok c.if-not-ends.true))

pub returns-then-not-finished-clause-grows : goal.returns-then-not-finished-clause-grows
returns-then-not-finished-clause-grows c = λ e.
    waits_grows c.args.rules.now c.args.reads.now c.step_on.new.self (c.step_on.ensures.patterns
    ∙ c.set_out.ensures.patterns
    ∙ c.requires.known.patterns) (c.in_ok-ends.ensures.all (ap Ok c.if-not-ends.true))
    (c.in_ok-ends.ensures.at (ap Ok c.if-not-ends.true))

pub returns-clause-found : goal.returns-clause-found
returns-clause-found c =
    look_found c.args.rules.now c.args.reads.now c.step_on.new.self (c.step_on.ensures.patterns
    ∙ c.set_out.ensures.patterns ∙ c.requires.known.patterns) c.in_ok-ends.ends c.args.finished
    (λ e. c.in_ok-ends.ensures.ends (ap Ok e)) (λ e. c.in_ok-ends.ensures.all (ap Ok e))
    (λ e. c.in_ok-ends.ensures.at (ap Ok e))
    (elim c.else-not-ends.branch [
      | else-not-ends-via-then-not-ends+else-not-finished w ↦ inr w.if-not-finished.false
      | else-not-ends-via-else-not-ends w ↦ inl w.if-not-ends.false
    ])
