use Rattle.std.proofs.Common.{◌≡◌, drop}
use Rattle.ap_exec.specs.Comparing.{same_words}
use Rattle.ap_exec.proofs.comparing.same_each.Given as goal

abbrev pub invariant-loop-s : goal.invariant-loop-s
invariant-loop-s l = same_words l.caseless (drop l.s-index l.a) l.rest
    ≡ same_words l.caseless l.a l.b
