use Rattle.std.proofs.Common.{refl}
use Rattle.ap_binary.specs.Spelling.{cycle}
use Rattle.ap_binary.proofs.reading.cycle_fault.Goals as goal

pub returns-in-Some : goal.returns-in-Some
returns-in-Some c = cycle c.in-Some.place (rw c.in-Some.is at c.in_ok-empty_cycle.ensures) refl
