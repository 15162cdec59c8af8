-- What the laws of choosing readings say.
use Rattle.std.specs.Prelude.{◌≡◌, ◌⊎◌, ◌<◌, ℕ, true, List, [], ◌∷◌, length, map, None}
use Rattle.ap_symbol.specs.declared.symbol.Symbol.{Symbol}
use Rattle.ap_stream.specs.Laws.{AreWords}
use Rattle.ap_stream.specs.Pieces.{HaveSameSuperblanks}
use Rattle.ap_stream.specs.ReadOn.{Links}
use Rattle.ap_stream.specs.Told.{Clean}
use Rattle.ap_stream.specs.declared.dialect.Dialect.TheVariants.{Analysed, Lexical}
use Rattle.ap_passes.specs.Passes.{first_pass}
use Rattle.ap_choose.specs.Choice.{Reading, numbered, bars, firsts, is_allowed, allowed_choice}
use Rattle.ap_choose.specs.declared.forbidden.Pair.{Pair}
use Rattle.ap_choose.specs.Sentences.{reading_at, chosen_text}

-- where the chosen readings of a text have no fault, they have its superblanks
abbrev pub ChooseKeeps : Type 0
ChooseKeeps = (pairs : List Pair) (text : List ℕ) → (chosen_text pairs text Clean).fault ≡ None
    → HaveSameSuperblanks Analysed Lexical text (chosen_text pairs text Clean).text

-- they are read on as lexical text, and an analysed text that is read on is never malformed for
-- them
abbrev pub ChooseIsRead : Type 0
ChooseIsRead = (pairs : List Pair) → Links Analysed Lexical (chosen_text pairs)

-- without pairs they are the first readings
abbrev pub NoPairsFirst : Type 0
NoPairsFirst = (text : List ℕ) → (chosen_text [] text Clean).fault ≡ None →
    (first_pass text Clean).fault ≡ None
    → (chosen_text [] text Clean).text ≡ (first_pass text Clean).text

-- a reading of an analysed unit can be the word of a lexical unit, where it isn't empty
abbrev pub ReadingReads : Type 0
ReadingReads = (words : List (List Symbol)) (place : ℕ) → 0 < length (reading_at words place) →
    AreWords Analysed words
    → AreWords Lexical (reading_at words place ∷ [])

abbrev pub IsOneOf : Reading → List Reading → Type 0
IsOneOf one [] = ⊥
IsOneOf one (other ∷ unit) = (one ≡ other) ⊎ IsOneOf one unit

-- one reading of each unit
abbrev pub IsChoice : List (List Reading) → List Reading → Type 0
IsChoice [] [] = Unit {0}
IsChoice [] (one ∷ row) = ⊥
IsChoice (unit ∷ units) [] = ⊥
IsChoice (unit ∷ units) (one ∷ row) = IsOneOf one unit × IsChoice units row

-- the one has the places of the other, or the lesser place at the first unit where they differ
abbrev pub IsNoLater : List Reading → List Reading → Type 0
IsNoLater [] row = Unit {0}
IsNoLater (one ∷ row) [] = ⊥
IsNoLater (one ∷ row) (other ∷ others) = (one.place < other.place)
    ⊎ ((one.place ≡ other.place) × IsNoLater row others)

-- It is a choice without a forbidden pair, and no later than any other such choice; or there is
-- none, and it is the first reading of each unit.
abbrev pub IsLeast : List Pair → List (List Reading) → List Reading → Type 0
IsLeast pairs units row =
    (IsChoice units row × (is_allowed (bars pairs) row ≡ true) × ((other : List Reading) →
    IsChoice units other → is_allowed (bars pairs) other ≡ true → IsNoLater row other))
    ⊎ (((other : List Reading) → IsChoice units other → is_allowed (bars pairs) other ≡ true → ⊥)
    × (row ≡ firsts units))

-- units by the words of their readings
abbrev pub units_of : List (List (List Symbol)) → List (List Reading)
units_of words = map (λ unit. numbered 0 unit) words

-- the choice that is written is the least
abbrev pub LeastIsChosen : Type 0
LeastIsChosen = (pairs : List Pair) (words : List (List (List Symbol))) →
    IsLeast pairs (units_of words) (allowed_choice (bars pairs) (units_of words))
