use Rattle.std.proofs.Common.{◌≡◌, drop}
use Rattle.std.specs.List.{list_any}
use Rattle.ap_chunk.specs.Patterns.{lists, is_filled}
use Rattle.ap_chunk.proofs.patterns.some_with_items.Given as goal

abbrev pub invariant-loop-pattern : goal.invariant-loop-pattern
invariant-loop-pattern l = list_any is_filled (lists l.patterns)
    ≡ list_any is_filled (lists (drop l.pattern-index l.patterns))
