use Rattle.std.proofs.Common.{◌-◌, ◌^◌}
use Rattle.ap_trim.specs.Products.{AreProduct}
use Rattle.ap_trim.proofs.product.product.Given as goal

abbrev pub invariant-pairs : goal.invariant-pairs
invariant-pairs l = AreProduct l.mono l.bilingual l.number l.sets l.pairs l.edges l.finals

abbrev pub decreases-pairs : goal.decreases-pairs
decreases-pairs l = 2 ^ 64 - l.number
