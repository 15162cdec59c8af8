use Rattle.std.proofs.Common.{◌≡◌, length}
use Rattle.ap_exec.specs.Comparing.{holds_part}
use Rattle.ap_exec.proofs.comparing.holds_part.Given as goal

abbrev pub invariant-places : goal.invariant-places
invariant-places l = holds_part l.caseless l.part l.rest ≡ holds_part l.caseless l.part l.word

abbrev pub decreases-places : goal.decreases-places
decreases-places l = length l.rest
