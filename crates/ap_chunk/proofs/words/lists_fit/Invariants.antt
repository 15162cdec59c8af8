use Rattle.std.proofs.Common.{◌≡◌, drop, false}
use Rattle.ap_symbol.specs.Fitting.{lists_fit}
use Rattle.ap_chunk.proofs.words.lists_fit.Given as goal

abbrev pub invariant-loop-at : goal.invariant-loop-at
invariant-loop-at l = lists_fit false l.item l.word
    ≡ lists_fit false (drop l.at l.item) (drop l.at l.word)
