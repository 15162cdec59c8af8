use Rattle.std.proofs.Common.{◌≡◌, ◌++◌, ◌∷◌, take, map}
use Rattle.ap_exec.specs.Stacks.{between}
use Rattle.ap_exec.specs.Units.{number_at}
use Rattle.ap_exec.proofs.running.push_places.Given as goal

abbrev pub invariant-params : goal.invariant-params
invariant-params l =
    let positions = between l.scope.from l.scope.to l.fn.positions.items in
    l.positions.items ≡ take l.scope.to l.fn.positions.items
    ++ (number_at positions 0 ∷ map (number_at positions) (take l.param-index l.params))
