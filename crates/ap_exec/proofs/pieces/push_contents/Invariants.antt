use Rattle.std.proofs.Common.{◌≡◌, ◌++◌, drop}
use Rattle.ap_rules.specs.Views.{plain_values}
use Rattle.ap_exec.specs.Pieces.{contents_of}
use Rattle.ap_exec.specs.States.{sight}
use Rattle.ap_exec.proofs.pieces.push_contents.Given as goal

abbrev pub invariant-values : goal.invariant-values
invariant-values l = l.into
    ++ contents_of (sight l.view) (plain_values (drop l.value-index l.values)) ≡ l.initial.into
    ++ contents_of (sight l.view) (plain_values l.values)
