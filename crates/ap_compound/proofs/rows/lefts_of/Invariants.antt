use Rattle.std.proofs.Common.{◌≡◌, ℕ, ◌<◌, suc, take, length}
use Rattle.ap_live.specs.Lexicon.{lexicon_of}
use Rattle.ap_live.specs.SectionLives.{AreLive}
use Rattle.ap_compound.specs.Places.{words_at}
use Rattle.ap_compound.specs.Splits.{left_parts}
use Rattle.ap_compound.proofs.rows.lefts_of.Given as goal

abbrev pub invariant-loop-symbol : goal.invariant-loop-symbol
invariant-loop-symbol l = record {
  count : length l.lefts.items ≡ l.symbol-index;
  lefts : (k : ℕ) → k < l.symbol-index → words_at l.lefts.items k
      ≡ left_parts (lexicon_of l.compiled l.sensitive) (take (suc k) l.symbols);
  live : AreLive l.compiled l.sensitive (take l.symbol-index l.symbols) l.lives;
}
