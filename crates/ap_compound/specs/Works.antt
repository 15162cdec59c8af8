-- Unknown words explained as compounds: units, a whole text, and the work on it.
use Rattle.std.specs.Prelude.{ℕ, Bool, true, false, List, [], ◌∷◌, ◌++◌, if◌then◌else◌}
use Rattle.ap_symbol.specs.Fitting.{lists_fit}
use Rattle.ap_symbol.specs.Kinds.{first_word}
use Rattle.ap_symbol.specs.declared.symbol.Symbol.{Symbol}
use Rattle.ap_symbol.specs.declared.symbol.Symbol.TheVariants.{Star}
use Rattle.ap_fst.specs.Sections.{Parts}
use Rattle.ap_stream.specs.Each.{Single, each, held_items}
use Rattle.ap_stream.specs.Reading.{reads}
use Rattle.ap_stream.specs.Rest.{worked}
use Rattle.ap_stream.specs.Seat.{Seat}
use Rattle.ap_stream.specs.Spelling.{unit_bytes}
use Rattle.ap_stream.specs.Told.{Told, Ending}
use Rattle.ap_stream.specs.declared.dialect.Dialect.TheVariants.{Analysed}
use Rattle.ap_stream.specs.declared.item.Read.{Read}
use Rattle.ap_live.specs.Lexicon.{Lexicon, lexicon_of}
use Rattle.ap_compound.specs.Splits.{compound_readings}

-- a reading is Star followed by the surface
abbrev pub is_starred : List Symbol → List Symbol → Bool
is_starred (Star ∷ word) surface = lists_fit true word surface
is_starred _ surface = false

-- a unit whose only reading is Star followed by its surface
abbrev pub is_unknown : List (List Symbol) → Bool
is_unknown (surface ∷ reading ∷ []) = is_starred reading surface
is_unknown _ = false

-- where there are readings the surface and these, and else the words as they are
abbrev pub words_by : List (List Symbol) → List (List Symbol) → List (List Symbol)
words_by words [] = words
words_by words (reading ∷ readings) = first_word words ∷ reading ∷ readings

-- an unknown word is explained, where it has readings as a compound; any other unit stays as it is
abbrev pub explained : Lexicon → Bool → List (List Symbol) → List (List Symbol)
explained lexicon sensitive words = if is_unknown words
    then words_by words (compound_readings lexicon sensitive (first_word words)) else words

-- what a unit gives
abbrev pub compound_unit : Lexicon → Bool → List (List Symbol) → List ℕ
compound_unit lexicon sensitive words = unit_bytes (explained lexicon sensitive words)

-- an analysed text whose unknown words are explained as compounds
abbrev pub compounds_text : Lexicon → Bool → List ℕ → Ending → Told
compounds_text lexicon sensitive text ending =
    worked (each (compound_unit lexicon sensitive)) (reads Analysed 0 text) ending

-- what is seen of what explains: the dictionary, and whether case counts
pub record Explaining : Type 0 where
  pub compiled : Parts
  pub sensitive : Bool

-- what is still to come of the work where these items still come
abbrev pub compounds_work : Single Explaining → List Read → Told
compounds_work h xs = each
    (compound_unit (lexicon_of h.writer.compiled h.writer.sensitive) h.writer.sensitive)
    (held_items h.item ++ xs)

-- what is seen of the stage: the dictionary, whether case counts, and how it stands
pub record Compounding : Type 0 where
  pub compiled : Parts
  pub sensitive : Bool
  pub seat : Seat (Single Explaining)
