use Rattle.std.proofs.Common.{◌≡◌, drop}
use Rattle.ap_rules.specs.Plain.{conditions_of}
use Rattle.ap_rules.specs.Views.{plain_conditions}
use Rattle.ap_exec.specs.Conditions.{all_hold, one_holds}
use Rattle.ap_exec.specs.States.{sight}
use Rattle.ap_exec.proofs.conditions.+hold.Given as goal

abbrev pub invariant-all_hold-conditions : goal.invariant-all_hold-conditions
invariant-all_hold-conditions l =
    all_hold (sight l.view) (conditions_of (plain_conditions (drop l.condition-index l.conditions)))
    ≡ all_hold (sight l.view) (conditions_of (plain_conditions l.conditions))

abbrev pub invariant-one_holds-conditions : goal.invariant-one_holds-conditions
invariant-one_holds-conditions l =
    one_holds (sight l.view)
    (conditions_of (plain_conditions (drop l.condition-index l.conditions)))
    ≡ one_holds (sight l.view) (conditions_of (plain_conditions l.conditions))
