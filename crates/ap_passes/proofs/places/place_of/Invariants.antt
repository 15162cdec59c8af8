use Rattle.std.proofs.Common.{◌≡◌, ◌+◌, drop}
use Rattle.ap_passes.specs.Marks.{until}
use Rattle.ap_passes.specs.Sought.{test_of}
use Rattle.ap_passes.proofs.places.place_of.Given as goal

abbrev pub invariant-loop-at : goal.invariant-loop-at
invariant-loop-at l = l.from + until (test_of l.sought) (drop l.from l.symbols)
    ≡ l.at + until (test_of l.sought) (drop l.at l.symbols)
