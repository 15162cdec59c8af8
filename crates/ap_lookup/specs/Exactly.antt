-- Which words are found, by the pairs of words that the sections of a compiled dictionary relate.
use Rattle.std.specs.Prelude.{◌≡◌, ◌⊎◌, ◌↔◌, ℕ, ◌<◌, ◌≤◌, Bool, true, false, IsTrue, List, [], length, take, drop}
use Rattle.std.specs.List.Sorted.{IsStrictlySortedBy}
use Rattle.std.specs.declared.cmp.Ordering.TheVariants.{Less}
use Rattle.ap_symbol.specs.Fitting.{lists_fit}
use Rattle.ap_symbol.specs.Kinds.{is_marked}
use Rattle.ap_symbol.specs.Lists.{IsIn}
use Rattle.ap_symbol.specs.Rendering.{word_cmp}
use Rattle.ap_symbol.specs.declared.symbol.Symbol.{Symbol}
use Rattle.ap_fst.specs.Sections.{Parts, IsCompiled}
use Rattle.ap_fst.specs.declared.compiled.Kind2.{Kind2}
use Rattle.ap_live.specs.Lexicon.{Lexicon, lexicon_of}
use Rattle.ap_live.specs.Readings.{carried}
use Rattle.ap_live.specs.Relations.{relation_of}
use Rattle.ap_stream.specs.Limits.{span_max}
use Rattle.ap_stream.specs.Steps.{Step, Gives, bytes_of}
use Rattle.ap_stream.specs.declared.item.Read.{Read}
use Rattle.ap_lookup.specs.Lookup.{generated, formed}
use Rattle.ap_lookup.specs.PostGenerating.{symbols, begins_alarm, span, chosen, blanks, word_step, post_step}
use Rattle.ap_lookup.specs.Translation.{Translated, lemma, lemma_length, forms_of, translation}
use Rattle.ap_lookup.specs.declared.generation_writer.Marks.{Marks}

-- some pair, of any kind, has a left word that fits these symbols
pub record FitsSome (p : Parts) (sensitive : Bool) (seen : List Symbol) : Type 0 where
  pub kind : Kind2
  pub left : List Symbol
  pub right : List Symbol
  pub related : relation_of p kind left right
  pub fit : IsTrue (lists_fit sensitive left seen)

-- some pair, of any kind, has a left word that fits these symbols, and the word is its right word
-- with the case of this lemma
pub record IsRightWord (p : Parts) (sensitive : Bool) (lemma seen word : List Symbol) : Type 0 where
  pub kind : Kind2
  pub left : List Symbol
  pub right : List Symbol
  pub related : relation_of p kind left right
  pub fit : IsTrue (lists_fit sensitive left seen)
  pub word_is : word ≡ carried sensitive lemma right

-- exactly these words, each once, in the order of words
pub record AreRightWords (p : Parts) (sensitive : Bool) (lemma seen : List Symbol)
    (words : List (List Symbol)) : Type 0 where
  pub order : IsStrictlySortedBy word_cmp words
  pub exactly : (word : List Symbol) →
      IsIn word words ↔ IsRightWord p sensitive lemma seen word

-- the forms of a unit's word are the right words of the whole of it
abbrev pub FormsAreExact : Type 0
FormsAreExact = (p : Parts) (sensitive : Bool) (word : List Symbol) → IsCompiled p →
    AreRightWords p sensitive (lemma word) word
    (forms_of (lexicon_of p sensitive) sensitive word word)

-- and they are written for a word that begins with neither * nor @
abbrev pub FormsAreWritten : Type 0
FormsAreWritten = (lexicon : Lexicon) (marks : Marks) (sensitive : Bool) (word : List Symbol) →
    is_marked word ≡ false → generated lexicon marks sensitive word
    ≡ formed marks word (forms_of lexicon sensitive word word)

-- the first n symbols of a word hold its whole lemma and fit a left word
pub record IsFront (p : Parts) (sensitive : Bool) (word : List Symbol) (n : ℕ) : Type 0 where
  pub some : 0 < n
  pub within : n ≤ length word
  pub whole : lemma_length word ≤ n
  pub fits : FitsSome p sensitive (take n word)

-- and no more of them do
pub record IsLongestFront (p : Parts) (sensitive : Bool) (word : List Symbol) (n : ℕ)
    : Type 0 where
  pub front : IsFront p sensitive word n
  pub none_longer : (m : ℕ) → n < m → IsFront p sensitive word m → ⊥

-- A translation of a word. The longest such front is taken: the heads are its right words, with the
-- case of the word's lemma, and what follows it is left. A word that begins with * or @, and one
-- without such a front, has no head and is left whole.
pub data IsTranslation (p : Parts) (sensitive : Bool) (word : List Symbol)
    (made : Translated) : Type 0 where
  front_taken : (n : ℕ) → is_marked word ≡ false → IsLongestFront p sensitive word n →
      AreRightWords p sensitive (lemma word) (take n word) made.heads → made.left ≡ drop n word →
      IsTranslation p sensitive word made
  none_taken : (is_marked word ≡ true) ⊎ ((n : ℕ) → IsFront p sensitive word n → ⊥) →
      made.heads ≡ [] → made.left ≡ word → IsTranslation p sensitive word made

abbrev pub HeadsAreExact : Type 0
HeadsAreExact = (p : Parts) (sensitive : Bool) (word : List Symbol) → IsCompiled p →
    IsTranslation p sensitive word (translation (lexicon_of p sensitive) sensitive word)

-- so many symbols fit a left word, and no more of them do
pub record IsGreatestMatch (p : Parts) (sensitive : Bool) (all : List Symbol) (n : ℕ)
    : Type 0 where
  pub some : 0 < n
  pub within : n ≤ length all
  pub fits : FitsSome p sensitive (take n all)
  pub none_longer : (m : ℕ) → n < m → m ≤ length all → FitsSome p sensitive (take m all) → ⊥

-- a right word of what was seen, with its case, and in the order of words none stands before it
pub record IsLeastWord (p : Parts) (sensitive : Bool) (seen word : List Symbol) : Type 0 where
  pub is : IsRightWord p sensitive seen seen word
  pub least : (other : List Symbol) → IsRightWord p sensitive seen seen other →
      (word ≡ other) ⊎ (word_cmp word other ≡ Less)

-- the items begin with an alarm, and those that must be seen together are within the limit
pub record MayMatch (p : Parts) (sensitive : Bool) (reads : List Read) : Type 0 where
  pub alarm : begins_alarm reads ≡ true
  pub short : bytes_of (take (span (lexicon_of p sensitive) reads) reads) ≤ span_max

-- the least right word of the match is written in its place
pub record WritesMatch (p : Parts) (sensitive : Bool) (reads : List Read) (n : ℕ) (step : Step)
    : Type 0 where
  pub word : List Symbol
  pub least : IsLeastWord p sensitive (take n (symbols reads)) word
  pub step_is : step ≡ word_step n word (blanks (take n reads))

-- at an alarm the greatest match is taken
abbrev pub GreatestIsTaken : Type 0
GreatestIsTaken = (p : Parts) (sensitive : Bool) (reads : List Read) (n : ℕ) → IsCompiled p →
    MayMatch p sensitive reads → IsGreatestMatch p sensitive (symbols reads) n →
    WritesMatch p sensitive reads n (post_step (lexicon_of p sensitive) sensitive reads)

-- and where there is none, the alarm is left out
abbrev pub AlarmIsLeftOut : Type 0
AlarmIsLeftOut = (p : Parts) (sensitive : Bool) (reads : List Read) → IsCompiled p →
    MayMatch p sensitive reads → ((n : ℕ) → 0 < n → n ≤ length (symbols reads) →
    FitsSome p sensitive (take n (symbols reads)) → ⊥) →
    post_step (lexicon_of p sensitive) sensitive reads ≡ Gives 1 []

-- what is written for what was seen is its least right word
abbrev pub LeastIsWritten : Type 0
LeastIsWritten = (p : Parts) (sensitive : Bool) (seen : List Symbol) → IsCompiled p →
    FitsSome p sensitive seen →
    IsLeastWord p sensitive seen (chosen (lexicon_of p sensitive) sensitive seen)
