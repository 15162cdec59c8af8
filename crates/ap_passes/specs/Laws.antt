-- What the laws of taking words apart say.
use Rattle.std.specs.Prelude.{◌≡◌, ◌⊎◌, ℕ, ◌<◌, Bool, true, false, not, List, [], ◌∷◌, ◌++◌, length, None}
use Rattle.std.specs.List.{filter, flat_map, list_any, list_all}
use Rattle.ap_symbol.specs.Kinds.{is_tag, is_join, is_queue, is_joint, is_marked}
use Rattle.ap_symbol.specs.declared.symbol.Symbol.{Symbol}
use Rattle.ap_symbol.specs.declared.symbol.Symbol.TheVariants.{Join}
use Rattle.ap_stream.specs.Laws.{AreWords}
use Rattle.ap_stream.specs.Pieces.{HaveSameSuperblanks}
use Rattle.ap_stream.specs.ReadOn.{Links}
use Rattle.ap_stream.specs.Told.{Clean}
use Rattle.ap_stream.specs.declared.dialect.Dialect.TheVariants.{Analysed, Lexical}
use Rattle.ap_passes.specs.Marks.{is_end, begins_with, stops_at}
use Rattle.ap_passes.specs.Passes.{first_pass, split_pass}
use Rattle.ap_passes.specs.Splitting.{is_filled, moved, parts, split}

abbrev pub joined_one : List Symbol → List Symbol
joined_one word = Join ∷ word

-- words joined by Joins
abbrev pub rejoined : List (List Symbol) → List Symbol
rejoined [] = []
rejoined (word ∷ words) = word ++ flat_map joined_one words

-- The invariable part of a word, and what stands around it: it begins with the first Queue, and runs
-- to the next tag, the next Join or the end.
pub record HasPart (word before part after : List Symbol) : Type 0 where
  pub is : word ≡ before ++ (part ++ after)
  pub first : list_any is_queue before ≡ false
  pub begins : begins_with is_queue part ≡ true
  pub runs : list_any is_end part ≡ false
  pub ends : stops_at is_end after ≡ true

-- The first word becomes the second by moving its invariable part: where a tag stands before it, it
-- goes in front of the first tag, and all else stays in its order. Where none does, and where there
-- is no such part, the word stays.
pub data IsMoved (word whole : List Symbol) : Type 0 where
  moves : (stem tags part more : List Symbol) → HasPart word (stem ++ tags) part more →
      list_any is_tag stem ≡ false → begins_with is_tag tags ≡ true →
      whole ≡ stem ++ (part ++ (tags ++ more)) → IsMoved word whole
  untagged : (stem part more : List Symbol) → HasPart word stem part more →
      list_any is_tag stem ≡ false → whole ≡ word → IsMoved word whole
  without : list_any is_queue word ≡ false → whole ≡ word → IsMoved word whole

-- no Join of the word has a tag somewhere before it
pub record IsUnsplit (word : List Symbol) : Type 0 where
  pub front : List Symbol
  pub back : List Symbol
  pub is : word ≡ front ++ back
  pub no_tag : list_any is_tag front ≡ false
  pub no_join : list_any is_join back ≡ false

abbrev pub is_joinless : List Symbol → Bool
is_joinless word = not (list_any is_join word)

-- A word is split into parts, exactly at the Joins that have a tag somewhere before them: joined
-- again by Joins the parts are the word. The first has a tag, where others follow, and no Join
-- behind one; and the others have no Join.
pub record IsSplit (word : List Symbol) (parts : List (List Symbol)) : Type 0 where
  pub first : List Symbol
  pub others : List (List Symbol)
  pub parts_are : parts ≡ first ∷ others
  pub whole : rejoined parts ≡ word
  pub unsplit : IsUnsplit first
  pub tagged : (others ≡ []) ⊎ (list_any is_tag first ≡ true)
  pub joinless : list_all is_joinless others ≡ true

-- A word is taken apart: its invariable part is moved, then it is split, and of the parts those are
-- left that aren't empty.
pub record IsTakenApart (word : List Symbol) (words : List (List Symbol)) : Type 0 where
  pub whole : List Symbol
  pub parts : List (List Symbol)
  pub moved : IsMoved word whole
  pub split : IsSplit whole parts
  pub words_are : words ≡ filter is_filled parts

-- so is every word that isn't marked
abbrev pub TakesApart : Type 0
TakesApart = (word : List Symbol) → is_marked word ≡ false → IsTakenApart word (split word)

-- and there is one way to take a word apart
abbrev pub ApartOnce : Type 0
ApartOnce = (word : List Symbol) (words others : List (List Symbol)) → IsTakenApart word words →
    IsTakenApart word others → words ≡ others

-- Nothing is lost: where no part is empty, the words joined again by Joins are the word with its
-- invariable part moved.
abbrev pub NothingIsLost : Type 0
NothingIsLost = (word : List Symbol) → is_marked word ≡ false →
    list_all is_filled (parts (moved word)) ≡ true → IsMoved word (rejoined (split word))

-- no word that is made is empty
abbrev pub NoneIsEmpty : Type 0
NoneIsEmpty = (word : List Symbol) → list_all is_filled (split word) ≡ true

-- a word without Join and Queue stays as it is
abbrev pub PlainStays : Type 0
PlainStays = (word : List Symbol) → 0 < length word → list_any is_joint word ≡ false →
    split word ≡ word ∷ []

-- so does a word without a tag
abbrev pub TaglessStays : Type 0
TaglessStays = (word : List Symbol) → 0 < length word → list_any is_tag word ≡ false →
    split word ≡ word ∷ []

-- each of the words can be the word of a lexical unit
abbrev pub EachWord : List (List Symbol) → Type 0
EachWord [] = Unit {0}
EachWord (word ∷ words) = AreWords Lexical (word ∷ []) × EachWord words

-- the words that are made of the word of a lexical unit can be words of lexical units, and are read
-- again as they are written
abbrev pub SplitReads : Type 0
SplitReads = (word : List Symbol) → AreWords Lexical (word ∷ []) → EachWord (split word)

-- so can the first reading of an analysed unit, where it isn't empty
abbrev pub FirstReads : Type 0
FirstReads = (surface reading : List Symbol) (readings : List (List Symbol)) → 0 < length reading →
    AreWords Analysed (surface ∷ reading ∷ readings) → AreWords Lexical (reading ∷ [])

-- where the first readings of a text have no fault, they have its superblanks
abbrev pub FirstKeeps : Type 0
FirstKeeps = (text : List ℕ) → (first_pass text Clean).fault ≡ None
    → HaveSameSuperblanks Analysed Lexical text (first_pass text Clean).text

-- so has a text whose words are taken apart
abbrev pub SplitKeeps : Type 0
SplitKeeps = (text : List ℕ) → (split_pass text Clean).fault ≡ None
    → HaveSameSuperblanks Lexical Lexical text (split_pass text Clean).text

-- the first readings of a text are read on as lexical text, and an analysed text that is read on is
-- never malformed for them
abbrev pub FirstIsRead : Type 0
FirstIsRead = Links Analysed Lexical first_pass

-- so it is where words are taken apart
abbrev pub SplitIsRead : Type 0
SplitIsRead = Links Lexical Lexical split_pass
