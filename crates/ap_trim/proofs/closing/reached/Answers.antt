use Rattle.std.proofs.Common.{sym, ◌∙◌, subst, List, ℕ, None}
use Rattle.std.specs.Prelude.{◌↔◌}
use Rattle.ap_fst.specs.Lists.{IsIn}
use Rattle.ap_trim.specs.Reading.{LeavesBy}
use Rattle.ap_trim.proofs.Reaching.{reaching_begun, reaching_on, reached_all}
use Rattle.ap_trim.proofs.closing.reached.Goals as goal

pub states-init : goal.states-init
states-init c = reaching_begun c.args.fst.now c.args.starts.now c.new-states.result
    c.add_states.new.states c.new-states.ensures c.in_ok-add_states.ensures

pub states-preserved : goal.states-preserved
states-preserved c =
    reaching_on c.args.fst.now c.args.starts.now c.states.states c.as_slice.result.now
    c.add_states-in-Some.new.states c.states.at c.in-Some.state
    (sym c.in-Some.is ∙ c.get.ensures.value)
    (subst (λ (z : List ℕ). (t : ℕ) → IsIn t z ↔ LeavesBy c.args.fst.now c.in-Some.state None t)
    (sym c.as_slice.ensures.value) c.in_ok-targets.ensures) c.in_ok-add_states-2.ensures
    c.states.invariant

pub returns : goal.returns
returns c = reached_all c.args.fst.now c.args.starts.now c.states.states c.states.at
    (sym c.in_default.is ∙ c.get.ensures.value) c.states.invariant
