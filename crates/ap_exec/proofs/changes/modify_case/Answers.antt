use Rattle.std.proofs.Common.{◌∙◌, ap, List}
use Rattle.ap_symbol.specs.declared.symbol.Symbol.{Symbol}
use Rattle.ap_rules.specs.Views.{plain_value}
use Rattle.ap_exec.specs.Running.{sight_of, with_place, recased_at}
use Rattle.ap_exec.specs.States.{run_state, definitions}
use Rattle.ap_exec.specs.Units.{Sight}
use Rattle.ap_exec.specs.Values.{value_of}
use Rattle.ap_exec.proofs.Joins.{after_value}
use Rattle.ap_exec.proofs.changes.modify_case.Goals as goal

pub returns : goal.returns
returns c =
    let w = definitions c.args.world in
    let s = run_state c.args.world c.args.state.now in
    let positions = c.args.positions.now in
    let place = c.args.held.now.place in
    let at = sight_of w positions s in
    after_value _ (value_of at (plain_value c.args.held.now.value)) c.push_value.new.into
    (λ x. with_place w positions place (recased_at at place x) s) _
    (rw (← c.view_of.ensures) c.in_ok-push_value.ensures) c.in_ok-value.ensures
    (c.in_ok-set_place.ensures
    ∙ ap (λ (x : List Symbol). with_place w positions place x s)
    (c.in_ok-word.ensures ∙ ap (λ (z : Sight). recased_at z place c.push_value.new.into)
    c.view_of-view.ensures))
