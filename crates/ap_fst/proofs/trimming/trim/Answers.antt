use Rattle.std.proofs.Common.{◌∙◌, ◌≡◌, ap}
use Rattle.std.proofs.lemmas.Result.{IfOk-weaker}
use Rattle.ap_fst.specs.Machines.{Machine}
use Rattle.ap_fst.specs.Trimming.{trimmed_to}
use Rattle.ap_fst.proofs.Trims.{well_trimmed, IsWellTrimmed}
use Rattle.ap_fst.proofs.trimming.trim.Goals as goal

facts : (c : goal.After-drop-states) (made : Machine) →
    made ≡ trimmed_to c.as_slice.result.now c.args.fst.now → IsWellTrimmed c.args.fst.now made
facts c made e =
    well_trimmed c.in_ok-states.states.items c.args.fst.now made
    c.in_ok-states.ensures.ascend c.in_ok-states.ensures.exactly c.in_ok-states.ensures.sound
    (e ∙ ap (λ z. trimmed_to z c.args.fst.now) c.as_slice.ensures.value)

pub returns-clause-same : goal.returns-clause-same
returns-clause-same c = IfOk-weaker c.left_of.result _ _ (λ made e. (facts c made e).same)
    c.left_of.ensures

pub returns-clause-trimmed : goal.returns-clause-trimmed
returns-clause-trimmed c = IfOk-weaker c.left_of.result _ _ (λ made e. (facts c made e).trimmed)
    c.left_of.ensures

pub returns-clause-exact : goal.returns-clause-exact
returns-clause-exact c = IfOk-weaker c.left_of.result _ _ (λ made e. (facts c made e).exact)
    c.left_of.ensures

pub returns-clause-unchanged : goal.returns-clause-unchanged
returns-clause-unchanged c = IfOk-weaker c.left_of.result _ _
    (λ made e. (facts c made e).unchanged) c.left_of.ensures
