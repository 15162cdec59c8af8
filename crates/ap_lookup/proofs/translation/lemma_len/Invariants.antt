use Rattle.std.proofs.Common.{◌≡◌, ◌+◌, ◌-◌, ◌≤◌, length, drop}
use Rattle.ap_lookup.specs.Translation.{lemma_length}
use Rattle.ap_lookup.proofs.translation.lemma_len.Given as goal

abbrev pub invariant-loop-at : goal.invariant-loop-at
invariant-loop-at l = record {
  fits : l.at ≤ length l.symbols;
  is : lemma_length l.symbols
      ≡ l.at + lemma_length (drop l.at l.symbols);
}

abbrev pub decreases-loop-at : goal.decreases-loop-at
decreases-loop-at l = length l.symbols - l.at
