use Rattle.std.proofs.Common.{◌≡◌, ◌+◌, ◌-◌, List, length}
use Rattle.ap_symbol.specs.declared.symbol.Symbol.{Symbol}
use Rattle.ap_exec.specs.States.{overlaid}
use Rattle.ap_exec.proofs.changes.reach.Given as goal

abbrev pub invariant-fresh : goal.invariant-fresh
invariant-fresh l = (base : List (List Symbol)) → overlaid base l.fresh.items
    ≡ overlaid base l.initial.fresh.items

abbrev pub decreases-fresh : goal.decreases-fresh
decreases-fresh l = l.n + 1 - length l.fresh.items
