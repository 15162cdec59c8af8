use Rattle.std.proofs.Common.{◌≡◌, map, take}
use Rattle.ap_exec.proofs.vars.Vars.start.Given as goal

abbrev pub invariant-variables : goal.invariant-variables
invariant-variables l = l.words.items
    ≡ map (λ variable. variable.v) (take l.variable-index l.variable-items)
