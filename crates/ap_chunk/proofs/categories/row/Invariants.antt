use Rattle.std.proofs.Common.{◌≡◌, take, map}
use Rattle.ap_chunk.specs.Tests.{takes_at, division}
use Rattle.ap_chunk.proofs.categories.row.Given as goal

abbrev pub invariant-loop-category : goal.invariant-loop-category
invariant-loop-category l =
    l.into.items ≡ map (λ category. takes_at l.rules.form category l.word (division l.word))
    (take l.category-index l.rules.categories)
