-- Units of transfer by their bytes.
use Rattle.std.specs.Prelude.{◌≡◌, ℕ, List}
use Rattle.ap_symbol.specs.declared.symbol.Symbol.{Symbol}
use Rattle.ap_stream.specs.UnitBytes.{UnitOf}
use Rattle.ap_stream.specs.declared.dialect.Dialect.TheVariants.{Bilingual}
use Rattle.ap_chunk.specs.Parts.{word_of}

-- the bytes are those of a unit with these words
abbrev pub IsOf : List ℕ → List (List Symbol) → Type 0
IsOf key words = UnitOf Bilingual key words

-- a unit with these bytes has this source and this target
abbrev pub IsTranslation : List ℕ → List Symbol → List Symbol → Type 0
IsTranslation key source target = (words : List (List Symbol)) → IsOf key words →
    (source ≡ word_of 0 words) × (target ≡ word_of 1 words)
