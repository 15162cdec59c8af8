use Rattle.std.proofs.Common.{◌∙◌, ◌≡◌, ap, sym}
use Rattle.std.proofs.lemmas.Result.{IfOk-weaker}
use Rattle.ap_fst.specs.Machines.{Machine}
use Rattle.ap_fst.specs.Trimming.{trimmed_to}
use Rattle.ap_fst.proofs.Trims.{all_kept, well_trimmed, IsWellTrimmed}
use Rattle.ap_fst.proofs.trimming.trimmed.Goals as goal

as_it_is : (c : goal.After-drop-states) → IsWellTrimmed c.args.fst c.args.fst
as_it_is c =
    well_trimmed c.in_ok-states.states.items c.args.fst c.args.fst
    c.in_ok-states.ensures.ascend c.in_ok-states.ensures.exactly c.states.ensures.sound
    (all_kept c.in_ok-states.states.items c.args.fst c.in_ok-states.ensures.ascend
    c.in_ok-states.ensures.exactly c.states.ensures.sound
    (sym c.in_ok-states.states.ok.0 ∙ sym c.len.ensures ∙ c.if-len-states.true ∙ c.states.ensures.value))

pub returns-then-len-states-clause-trimmed : goal.returns-then-len-states-clause-trimmed
returns-then-len-states-clause-trimmed c = (as_it_is c).trimmed

pub returns-then-len-states-clause-exact : goal.returns-then-len-states-clause-exact
returns-then-len-states-clause-exact c = (as_it_is c).exact

facts : (c : goal.After-drop-fst-inside-3) (made : Machine) →
    made ≡ trimmed_to c.as_slice.result.now c.args.fst → IsWellTrimmed c.args.fst made
facts c made e =
    well_trimmed c.in_ok-states.states.items c.args.fst made
    c.in_ok-states.ensures.ascend c.in_ok-states.ensures.exactly c.states.ensures.sound
    (e ∙ ap (λ z. trimmed_to z c.args.fst) c.as_slice.ensures.value)

pub returns-clause-same : goal.returns-clause-same
returns-clause-same c = IfOk-weaker c.left_of.result _ _ (λ made e. (facts c made e).same)
    c.left_of.ensures

pub returns-clause-trimmed : goal.returns-clause-trimmed
returns-clause-trimmed c = IfOk-weaker c.left_of.result _ _ (λ made e. (facts c made e).trimmed)
    c.left_of.ensures

pub returns-clause-exact : goal.returns-clause-exact
returns-clause-exact c = IfOk-weaker c.left_of.result _ _ (λ made e. (facts c made e).exact)
    c.left_of.ensures

pub returns-clause-unchanged : goal.returns-clause-unchanged
returns-clause-unchanged c = IfOk-weaker c.left_of.result _ _
    (λ made e. (facts c made e).unchanged) c.left_of.ensures
