use Rattle.std.proofs.Common.{◌≡◌, ◌++◌, drop}
use Rattle.std.specs.List.{flat_map}
use Rattle.ap_exec.specs.Filling.{left_over}
use Rattle.ap_exec.proofs.filling.push_rest.Given as goal

abbrev pub invariant-blanks : goal.invariant-blanks
invariant-blanks l = l.into ++ flat_map left_over (drop l.blank-index l.blanks) ≡ l.initial.into
    ++ flat_map left_over l.blanks
