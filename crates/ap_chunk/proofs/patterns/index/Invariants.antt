use Rattle.std.proofs.Common.{take}
use Rattle.ap_chunk.specs.Patterns.{lists, IsIndex}
use Rattle.ap_chunk.proofs.patterns.index.Given as goal

abbrev pub invariant-loop-rule : goal.invariant-loop-rule
invariant-loop-rule l = IsIndex (lists (take l.rule l.patterns)) (lists l.made.items)
