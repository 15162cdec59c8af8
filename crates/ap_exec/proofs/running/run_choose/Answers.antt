use Rattle.std.proofs.Common.{◌≡◌, ◌∙◌, ap, arith, map, List, Option, ℕ}
use Rattle.std.proofs.lemmas.Result.{err_from_is_err_and}
use Rattle.ap_rules.specs.Plain.{whens_of}
use Rattle.ap_rules.specs.Views.{plain_when}
use Rattle.ap_rules.specs.declared.statement.Statement.{Statement}
use Rattle.ap_rules.specs.declared.statement.When.{When}
use Rattle.ap_exec.specs.Choosing.{chosen}
use Rattle.ap_exec.specs.Costs.{macro_cost}
use Rattle.ap_exec.specs.Running.{macros_below, sight_of}
use Rattle.ap_exec.specs.Stacks.{left, positions_within, body_of, between}
use Rattle.ap_exec.specs.States.{run_state, definitions, sight}
use Rattle.ap_exec.specs.Units.{Sight}
use Rattle.ap_exec.proofs.Stacking.{whens_in, others_in, choose_fails, choose_leads, choose_costs}
use Rattle.ap_exec.proofs.running.run_choose.Goals as goal

pub returns-in_err-taken-clause-leads : goal.returns-in_err-taken-clause-leads
returns-in_err-taken-clause-leads c =
    let w = definitions c.args.world in
    let positions = positions_within c.args.stack.now.positions.items c.args.scope in
    let s = run_state c.args.world c.args.state.now in
    let given = chosen (sight c.view_in-view.result)
    (whens_of (map plain_when c.deref-2.result.now)) (body_of c.deref-3.result.now) in
    let is : given ≡ chosen (sight_of w positions s) (whens_in c.args.held.now)
    (others_in c.args.held.now) =
    ap (λ (x : Sight). chosen x (whens_of (map plain_when c.deref-2.result.now))
    (body_of c.deref-3.result.now))
    (c.view_in-view.ensures ∙
    ap (λ (ps : List (Option ℕ)). sight_of w (between c.args.scope.from c.args.scope.to ps) s)
    c.deref.ensures.value)
    ∙ ap (λ (ws : List When). chosen (sight_of w positions s) (whens_of (map plain_when ws))
    (body_of c.deref-3.result.now)) c.deref-2.ensures.value
    ∙ ap (λ (ss : List Statement). chosen (sight_of w positions s) (whens_in c.args.held.now)
    (body_of ss)) c.deref-3.ensures.value in
    let p = err_from_is_err_and c.from_residual.result c.from_residual.ensures.1 in
    rw (p.1, p.2) (choose_fails w (macros_below w c.args.scope.visible) positions s c.args.held.now
    (left w c.args.stack.now) given is c.in_err-taken.field-0.0 c.in_err-taken.ensures)

pub returns-clause-leads : goal.returns-clause-leads
returns-clause-leads c =
    let w = definitions c.args.world in
    let positions = positions_within c.args.stack.now.positions.items c.args.scope in
    let s = run_state c.args.world c.args.state.now in
    let given = chosen (sight c.view_in-view.result)
    (whens_of (map plain_when c.deref-2.result.now)) (body_of c.deref-3.result.now) in
    let is : given ≡ chosen (sight_of w positions s) (whens_in c.args.held.now)
    (others_in c.args.held.now) =
    ap (λ (x : Sight). chosen x (whens_of (map plain_when c.deref-2.result.now))
    (body_of c.deref-3.result.now))
    (c.view_in-view.ensures ∙
    ap (λ (ps : List (Option ℕ)). sight_of w (between c.args.scope.from c.args.scope.to ps) s)
    c.deref.ensures.value)
    ∙ ap (λ (ws : List When). chosen (sight_of w positions s) (whens_of (map plain_when ws))
    (body_of c.deref-3.result.now)) c.deref-2.ensures.value
    ∙ ap (λ (ss : List Statement). chosen (sight_of w positions s) (whens_in c.args.held.now)
    (body_of ss)) c.deref-3.ensures.value in
    c.in_ok-push.ensures.left w s
    ∙ choose_leads w (macros_below w c.args.scope.visible) positions s c.args.held.now
    (left w c.args.stack.now) given is (body_of c.in_ok-taken.taken.now) c.in_ok-taken.ensures

pub returns-clause-cost : goal.returns-clause-cost
returns-clause-cost c =
    let w = definitions c.args.world in
    let positions = positions_within c.args.stack.now.positions.items c.args.scope in
    let s = run_state c.args.world c.args.state.now in
    let given = chosen (sight c.view_in-view.result)
    (whens_of (map plain_when c.deref-2.result.now)) (body_of c.deref-3.result.now) in
    let is : given ≡ chosen (sight c.view_in-view.result) (whens_in c.args.held.now)
    (others_in c.args.held.now) =
    ap (λ (ws : List When). chosen (sight c.view_in-view.result) (whens_of (map plain_when ws))
    (body_of c.deref-3.result.now)) c.deref-2.ensures.value
    ∙ ap (λ (ss : List Statement). chosen (sight c.view_in-view.result) (whens_in c.args.held.now)
    (body_of ss)) c.deref-3.ensures.value in
    let most = choose_costs (macro_cost w c.args.scope.visible) (sight c.view_in-view.result)
    c.args.held.now given (body_of c.in_ok-taken.taken.now) is c.in_ok-taken.ensures in
    omega (arith, most, c.in_ok-push.ensures.cost w)
