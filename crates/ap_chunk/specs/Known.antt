-- What is kept of units that were met: their bytes, the words of such a unit, and the row of the
-- first.
use Rattle.std.specs.Prelude.{◌≡◌, Bool, List}
use Rattle.std.specs.List.{AllByRecursion}
use Rattle.ap_symbol.specs.declared.symbol.Symbol.{Symbol}
use Rattle.ap_chunk.specs.Parts.{word_of}
use Rattle.ap_chunk.specs.Translations.{IsOf}
use Rattle.ap_chunk.specs.declared.known.Known.{Known}

-- a unit with these bytes has this row, which is its source's
abbrev pub IsRowed : (List Symbol → List Bool) → Known → Type 0
IsRowed given known = (words : List (List Symbol)) → IsOf known.unit words →
    known.row.items ≡ given (word_of 0 words)

abbrev pub AreRowed : (List Symbol → List Bool) → List Known → Type 0
AreRowed given units = AllByRecursion (IsRowed given) units
