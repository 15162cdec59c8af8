use Rattle.std.proofs.Common.{◌≡◌, map, take}
use Rattle.ap_chunk.proofs.patterns.categories_of.Given as goal

abbrev pub invariant-loop-item : goal.invariant-loop-item
invariant-loop-item l = l.made.items ≡ map (λ item. item.n) (take l.item-index l.rule.pattern)
