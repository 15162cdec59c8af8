-- What the passes write for a unit, and for a whole text.
use Rattle.std.specs.Prelude.{ℕ, Bool, List, [], ◌∷◌, ◌++◌, Option}
use Rattle.std.specs.List.{flat_map}
use Rattle.ap_symbol.specs.declared.symbol.Symbol.{Symbol}
use Rattle.ap_stream.specs.Each.{each, held_items}
use Rattle.ap_stream.specs.Reading.{reads}
use Rattle.ap_stream.specs.Rest.{worked}
use Rattle.ap_stream.specs.Spelling.{unit_bytes}
use Rattle.ap_stream.specs.Told.{Told, Ending}
use Rattle.ap_stream.specs.declared.dialect.Dialect.{Dialect}
use Rattle.ap_stream.specs.declared.dialect.Dialect.TheVariants.{Analysed, Lexical}
use Rattle.ap_stream.specs.declared.item.Read.{Read}
use Rattle.ap_passes.specs.Splitting.{split}

-- a word as a unit
abbrev pub one : List Symbol → List ℕ
one word = unit_bytes (word ∷ [])

abbrev pub spaced_one : List Symbol → List ℕ
spaced_one word = 32 ∷ one word

-- words as units, with one space between
abbrev pub spaced : List (List Symbol) → List ℕ
spaced [] = []
spaced (word ∷ words) = one word ++ flat_map spaced_one words

-- a word as a unit, where it isn't empty
abbrev pub filled_one : List Symbol → List ℕ
filled_one [] = []
filled_one (x ∷ word) = one (x ∷ word)

-- `first`: of a surface and its readings the first reading
abbrev pub first_reading : List (List Symbol) → List ℕ
first_reading [] = []
first_reading (surface ∷ []) = []
first_reading (surface ∷ reading ∷ readings) = filled_one reading

-- `pretransfer`: of one word the words that are made of it
abbrev pub split_unit : List (List Symbol) → List ℕ
split_unit [] = []
split_unit (word ∷ words) = spaced (split word)

-- the first readings of an analysed text
abbrev pub first_pass : List ℕ → Ending → Told
first_pass text ending = worked (each first_reading) (reads Analysed 0 text) ending

-- a lexical text whose words are taken apart
abbrev pub split_pass : List ℕ → Ending → Told
split_pass text ending = worked (each split_unit) (reads Lexical 0 text) ending

-- what is seen of a pass at work: its dialect, the item that it holds, and whether it is the last
pub record Passing : Type 0 where
  pub dialect : Dialect
  pub item : Option Read
  pub finished : Bool

-- what is still to come where these items still come
abbrev pub first_work : Passing → List Read → Told
first_work h xs = each first_reading (held_items h.item ++ xs)

abbrev pub split_work : Passing → List Read → Told
split_work h xs = each split_unit (held_items h.item ++ xs)
