use Rattle.std.proofs.Common.{◌≡◌, ◌++◌, vec_len, true}
use Rattle.std.specs.Prelude.{reverse}
use Rattle.std.specs.List.{list_all}
use Rattle.ap_symbol.specs.Words.{is_word_symbol}
use Rattle.ap_live.proofs.wording.word_of.Given as goal

abbrev pub invariant-loop-symbol : goal.invariant-loop-symbol
invariant-loop-symbol l = record {
  so_far : reverse l.fn.back ≡ l.word ++ reverse l.symbols.items;
  fit : list_all is_word_symbol l.symbols.items ≡ true;
}

abbrev pub decreases-loop-symbol : goal.decreases-loop-symbol
decreases-loop-symbol l = vec_len l.symbols
