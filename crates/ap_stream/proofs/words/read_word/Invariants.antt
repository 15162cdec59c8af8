use Rattle.std.proofs.Common.{◌≡◌, ◌-◌, ◌≤◌, List, [], length, drop}
use Rattle.ap_symbol.specs.declared.symbol.Symbol.{Symbol}
use Rattle.ap_stream.specs.Units.{rest, longer, form_of}
use Rattle.ap_stream.proofs.words.read_word.Given as goal

-- the words behind, and the symbols of this one
abbrev pub invariant-loop-at : goal.invariant-loop-at
invariant-loop-at l = record {
  begun : 1 ≤ l.at;
  fits : l.at ≤ length l.held;
  sought : l.behind ≤ l.fn.wanted;
  on : (words : List (List Symbol)) × (length words ≡ l.behind)
      × (rest (form_of l.fn.dialect) [] [] 0 (drop 1 l.held)
      ≡ longer (l.at - 1) (rest (form_of l.fn.dialect) words l.into 0 (drop l.at l.held)));
}

abbrev pub decreases-loop-at : goal.decreases-loop-at
decreases-loop-at l = length l.held - l.at
