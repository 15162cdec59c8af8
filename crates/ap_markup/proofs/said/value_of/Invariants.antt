use Rattle.std.proofs.Common.{◌≡◌, drop}
use Rattle.ap_markup.specs.Views.{pairs}
use Rattle.ap_markup.specs.Said.{value_of}
use Rattle.ap_markup.proofs.said.value_of.Given as goal

abbrev pub invariant-loop-a : goal.invariant-loop-a
invariant-loop-a l = value_of l.name (pairs (drop l.a-index l.given))
    ≡ value_of l.name (pairs l.given)
