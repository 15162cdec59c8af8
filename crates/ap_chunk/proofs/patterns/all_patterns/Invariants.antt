use Rattle.std.proofs.Common.{◌≡◌, map, take}
use Rattle.ap_chunk.specs.Patterns.{lists, pattern_of}
use Rattle.ap_chunk.proofs.patterns.all_patterns.Given as goal

abbrev pub invariant-loop-rule : goal.invariant-loop-rule
invariant-loop-rule l = lists l.made.items ≡ map pattern_of (take l.rule-index l.rules)
