use Rattle.std.proofs.Common.{◌≡◌, drop, map}
use Rattle.ap_rules.specs.Plain.{whens_of}
use Rattle.ap_rules.specs.Views.{plain_when}
use Rattle.ap_exec.specs.Choosing.{chosen}
use Rattle.ap_exec.specs.Stacks.{body_of}
use Rattle.ap_exec.specs.States.{sight}
use Rattle.ap_exec.proofs.running.choice.Given as goal

abbrev pub invariant-whens : goal.invariant-whens
invariant-whens l = chosen (sight l.view) (whens_of (map plain_when (drop l.when-index l.whens)))
    (body_of l.otherwise) ≡ chosen (sight l.view) (whens_of (map plain_when l.whens))
    (body_of l.otherwise)
