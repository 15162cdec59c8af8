use Rattle.std.proofs.Common.{◌≡◌, drop, List, map}
use Rattle.ap_symbol.specs.declared.symbol.Symbol.{Symbol}
use Rattle.ap_exec.specs.Compounds.{all_joined, values_in}
use Rattle.ap_exec.specs.Pieces.{units_of}
use Rattle.ap_exec.specs.Results.{seen}
use Rattle.ap_exec.specs.States.{sight}
use Rattle.ap_exec.proofs.pieces.push_units.Given as goal

abbrev pub invariant-units : goal.invariant-units
invariant-units l = seen (λ (ws : List (List Symbol)). all_joined l.into ws)
    (units_of (sight l.view) (map values_in (drop l.unit-index l.units)))
    ≡ seen (λ (ws : List (List Symbol)). all_joined l.initial.into ws)
    (units_of (sight l.view) (map values_in l.units))
