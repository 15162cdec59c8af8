-- What the laws of compounds say.
use Rattle.std.specs.Prelude.{◌≡◌, ◌↔◌, ℕ, ◌<◌, ◌≤◌, Bool, true, IsTrue, List, [], ◌∷◌, ◌++◌, length, None}
use Rattle.std.specs.List.Sorted.{IsStrictlySortedBy}
use Rattle.ap_symbol.specs.Fitting.{lists_fit}
use Rattle.ap_symbol.specs.Lists.{IsIn}
use Rattle.ap_symbol.specs.Rendering.{word_cmp}
use Rattle.ap_symbol.specs.declared.symbol.Symbol.{Symbol}
use Rattle.ap_fst.specs.Sections.{Parts, IsCompiled}
use Rattle.ap_fst.specs.declared.compiled.Kind2.{Kind2}
use Rattle.ap_live.specs.Lexicon.{Lexicon, lexicon_of}
use Rattle.ap_live.specs.Readable.{GivesReadable}
use Rattle.ap_live.specs.Readings.{carried}
use Rattle.ap_live.specs.Relations.{relation_of}
use Rattle.ap_stream.specs.Pieces.{HaveSameSuperblanks}
use Rattle.ap_stream.specs.ReadOn.{Links}
use Rattle.ap_stream.specs.Told.{Clean}
use Rattle.ap_stream.specs.declared.dialect.Dialect.TheVariants.{Analysed}
use Rattle.ap_compound.specs.Splits.{joined_word, may_split, compound_readings}
use Rattle.ap_compound.specs.Tags.{tag_of, holds, bare}
use Rattle.ap_compound.specs.Works.{compounds_text}
use Rattle.ap_compound.specs.declared.tags.Part.{Part}
use Rattle.ap_compound.specs.declared.tags.Part.TheVariants.{Left, Right}

-- A part of a dictionary: a pair of any kind whose left word fits these symbols, and whose right
-- word holds the tag of this sort of parts. Its word is the right word without the tags of parts.
pub record IsPart (p : Parts) (sensitive : Bool) (part : Part) (symbols word : List Symbol)
    : Type 0 where
  pub kind : Kind2
  pub left : List Symbol
  pub right : List Symbol
  pub related : relation_of p kind left right
  pub fit : IsTrue (lists_fit sensitive left symbols)
  pub marked : holds (tag_of part) right ≡ true
  pub word_is : word ≡ bare right

-- A split of symbols, as the words of its parts: left parts and at last a right part, which one
-- after another fit the symbols.
pub data IsSplitOf (p : Parts) (sensitive : Bool) : List Symbol → List (List Symbol) → Type 0 where
  end_part : {symbols : List Symbol} {words : List (List Symbol)} (word : List Symbol) →
      IsPart p sensitive Right symbols word → words ≡ word ∷ [] →
      IsSplitOf p sensitive symbols words
  more_parts : {symbols : List Symbol} {words : List (List Symbol)} (front back : List Symbol)
      (word : List Symbol) (more : List (List Symbol)) → symbols ≡ front ++ back →
      IsPart p sensitive Left front word → IsSplitOf p sensitive back more → words ≡ word ∷ more →
      IsSplitOf p sensitive symbols words

-- a split into two parts or more, and none into fewer
pub record IsFewestOf (p : Parts) (sensitive : Bool) (surface : List Symbol)
    (words : List (List Symbol)) : Type 0 where
  pub split : IsSplitOf p sensitive surface words
  pub several : 1 < length words
  pub least : (others : List (List Symbol)) → IsSplitOf p sensitive surface others →
      1 < length others → length words ≤ length others

-- the words of such a split, joined by Joins, with the surface's case carried to it
pub record IsCompoundReading (p : Parts) (sensitive : Bool) (surface reading : List Symbol)
    : Type 0 where
  pub words : List (List Symbol)
  pub fewest : IsFewestOf p sensitive surface words
  pub reading_is : reading ≡ carried sensitive surface (joined_word words)

-- the readings of a surface by a dictionary stand in order, each once; they are the readings of all
-- its splits with the fewest parts, where it may be split
abbrev pub ReadingsAreExact : Type 0
ReadingsAreExact = (p : Parts) (sensitive : Bool) (surface : List Symbol) → IsCompiled p →
    IsStrictlySortedBy word_cmp (compound_readings (lexicon_of p sensitive) sensitive surface)
    × ((reading : List Symbol) →
    IsIn reading (compound_readings (lexicon_of p sensitive) sensitive surface)
    ↔ (may_split surface ≡ true) × IsCompoundReading p sensitive surface reading)

-- where the explained text of an analysed one has no fault, it has its superblanks
abbrev pub CompoundKeeps : Type 0
CompoundKeeps = (lexicon : Lexicon) (sensitive : Bool) (text : List ℕ) → GivesReadable lexicon
    → (compounds_text lexicon sensitive text Clean).fault ≡ None
    → HaveSameSuperblanks Analysed Analysed text (compounds_text lexicon sensitive text Clean).text

-- it is read on as analysed text, and an analysed text that is read on is never malformed for it
abbrev pub CompoundIsRead : Type 0
CompoundIsRead = (lexicon : Lexicon) (sensitive : Bool) → GivesReadable lexicon →
    Links Analysed Analysed (compounds_text lexicon sensitive)
