use Rattle.std.proofs.Common.{◌≡◌, ◌+◌, drop}
use Rattle.ap_chunk.specs.Patterns.{lists, first_empty}
use Rattle.ap_chunk.proofs.patterns.first_without.Given as goal

abbrev pub invariant-loop-at : goal.invariant-loop-at
invariant-loop-at l = first_empty (lists l.patterns)
    ≡ l.at + first_empty (lists (drop l.at l.patterns))
