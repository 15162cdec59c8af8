use Rattle.std.proofs.Common.{◌≡◌, ◌++◌, map, take}
use Rattle.ap_exec.specs.Acting.{shown}
use Rattle.ap_exec.proofs.beginning.units_of.Given as goal

abbrev pub invariant-units : goal.invariant-units
invariant-units l = l.lent.items ≡ l.initial.lent.items
    ++ map shown (take l.unit-index l.unit-items)
