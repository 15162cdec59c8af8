use Rattle.std.proofs.Common.{◌≡◌, ◌++◌, drop, List}
use Rattle.ap_symbol.specs.declared.symbol.Symbol.{Symbol}
use Rattle.ap_rules.specs.Plain.{values_of}
use Rattle.ap_rules.specs.Views.{plain_values}
use Rattle.ap_exec.specs.Results.{seen}
use Rattle.ap_exec.specs.States.{sight}
use Rattle.ap_exec.specs.Values.{joined_of}
use Rattle.ap_exec.proofs.values.+push.Given as goal

abbrev pub invariant-push_values-values : goal.invariant-push_values-values
invariant-push_values-values l =
    seen (λ (w : List Symbol). l.into ++ w)
    (joined_of (sight l.view) (values_of (plain_values (drop l.value-index l.values))))
    ≡ seen (λ (w : List Symbol). l.initial.into ++ w)
    (joined_of (sight l.view) (values_of (plain_values l.values)))
