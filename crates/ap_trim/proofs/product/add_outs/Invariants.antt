use Rattle.std.proofs.Common.{take}
use Rattle.ap_trim.specs.Products.{AddsOuts}
use Rattle.ap_trim.proofs.product.add_outs.Given as goal

abbrev pub invariant-loop-exit : goal.invariant-loop-exit
invariant-loop-exit l = AddsOuts l.bilingual l.watch l.from (take l.exit-index l.exits)
    l.initial.sets l.sets l.initial.pairs l.pairs l.initial.edges l.edges
