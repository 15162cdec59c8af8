use Rattle.std.proofs.Common.{subst}
use Rattle.ap_rules.specs.Views.{plain_value}
use Rattle.ap_exec.specs.Running.{macros_below}
use Rattle.ap_exec.specs.Setting.{IsHeld}
use Rattle.ap_exec.specs.States.{run_state, definitions}
use Rattle.ap_exec.specs.Units.{Sight}
use Rattle.ap_exec.proofs.Setting.{held_stays}
use Rattle.ap_exec.proofs.changes.assign.Goals as goal

pub returns-then-is_held : goal.returns-then-is_held
returns-then-is_held c =
    let w = definitions c.args.world in
    let place = c.args.held.now.place in
    let value = plain_value c.args.held.now.value in
    held_stays w (macros_below w 0) c.args.positions.now place value (run_state c.args.world
    c.args.state.now)
    (subst (λ (z : Sight). IsHeld z place value) c.view_of-view.ensures
    (c.is_held.ensures c.if-is_held.true))
