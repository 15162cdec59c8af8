use Rattle.std.proofs.Common.{◌≡◌, vec_len}
use Rattle.ap_exec.specs.States.{overlaid}
use Rattle.ap_exec.proofs.vars.put_all.Given as goal

abbrev pub invariant-rest : goal.invariant-rest
invariant-rest l = overlaid l.words.items l.rest.items
    ≡ overlaid l.initial.words.items l.fn.fresh.items

abbrev pub decreases-rest : goal.decreases-rest
decreases-rest l = vec_len l.rest
