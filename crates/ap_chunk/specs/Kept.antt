-- What is kept of words that were met: the bytes of a word, and its row.
use Rattle.std.specs.Prelude.{◌≡◌, ℕ, Bool, List}
use Rattle.std.specs.List.{AllByRecursion}
use Rattle.ap_symbol.specs.Rendering.{rendering}
use Rattle.ap_symbol.specs.Words.{AreProper}
use Rattle.ap_symbol.specs.declared.symbol.Symbol.{Symbol}
use Rattle.ap_chunk.specs.Known.{AreRowed}
use Rattle.ap_chunk.specs.declared.kept.Kept.{Kept}
use Rattle.ap_chunk.specs.declared.kept.KeptRow.{KeptRow}

-- each word with these bytes has this row; words with equal bytes are equal
abbrev pub IsTold : (List Symbol → List Bool) → List ℕ → List Bool → Type 0
IsTold given key row = (word : List Symbol) → AreProper word → rendering word ≡ key →
    row ≡ given word

abbrev pub IsKept : (List Symbol → List Bool) → KeptRow → Type 0
IsKept given kept = IsTold given kept.key.items kept.row.items

abbrev pub AreKept : (List Symbol → List Bool) → List KeptRow → Type 0
AreKept given rows = AllByRecursion (IsKept given) rows

-- each row that is kept is the word's
pub record AllKept (given : List Symbol → List Bool) (kept : Kept) : Type 0 where
  pub rows : AreKept given kept.rows.rows.items
  pub units : AreRowed given kept.units.units.items
