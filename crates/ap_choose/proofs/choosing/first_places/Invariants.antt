use Rattle.std.proofs.Common.{◌≡◌, ◌++◌, drop}
use Rattle.ap_choose.specs.Choice.{firsts}
use Rattle.ap_choose.specs.Choosing.{places}
use Rattle.ap_choose.proofs.choosing.first_places.Given as goal

abbrev pub invariant-units : goal.invariant-units
invariant-units l = l.found ++ places (firsts (drop l.unit-index l.units)) ≡ places (firsts l.units)
