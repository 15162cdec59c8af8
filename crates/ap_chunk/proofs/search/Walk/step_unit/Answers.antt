use Rattle.std.proofs.Common.{refl, sym, ◌∙◌}
use Rattle.std.proofs.lemmas.Bool.{both_ways}
use Rattle.ap_chunk.specs.Choice.{unit_of}
use Rattle.ap_chunk.proofs.Walks.{unit_end, unit_live, unit_over, units_fit}
use Rattle.ap_chunk.proofs.search.Walk.step_unit.Goals as goal

pub returns-then-not-goes_on-clause-ends : goal.returns-then-not-goes_on-clause-ends
returns-then-not-goes_on-clause-ends c = λ e parts is next.
    let stands = c.in_ok-step.ensures.stands is.walked.units
    (units_fit parts c.args.self.now is.walked c.requires.bounded) is.walked.stands in
    unit_end parts c.args.self.now _ refl is (unit_of c.args.row.now) next c.step.new.self
    c.in_ok-step.ensures.patterns stands (sym c.over.ensures ∙ c.in-None.is)
    (λ live. both_ways c.goes_on.result c.if-not-goes_on.true ((c.goes_on.ensures _ stands).1 live))

pub returns-in-Some-clause-on : goal.returns-in-Some-clause-on
returns-in-Some-clause-on c = λ e parts is next.
    let stands = c.in_ok-step.ensures.stands is.walked.units
    (units_fit parts c.args.self.now is.walked c.requires.bounded) is.walked.stands in
    unit_over parts c.args.self.now _ refl is (unit_of c.args.row.now) next c.step.new.self
    c.in_ok-step.ensures.patterns stands c.in-Some.rule c.count.result (sym c.over.ensures
    ∙ c.in-Some.is) (sym c.count.ensures)

pub returns-clause-on : goal.returns-clause-on
returns-clause-on c = λ e parts is next.
    let stands = c.in_ok-step.ensures.stands is.walked.units
    (units_fit parts c.args.self.now is.walked c.requires.bounded) is.walked.stands in
    unit_live parts c.args.self.now _ refl is (unit_of c.args.row.now) next c.step.new.self
    c.in_ok-step.ensures.patterns stands (sym c.over.ensures ∙ c.in-None.is)
    ((c.goes_on.ensures _ stands).0 c.if-not-goes_on.false)
