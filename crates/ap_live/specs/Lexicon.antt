-- What a dictionary says of input symbols: which words they read, and where they may go on.
use Rattle.std.specs.Prelude.{◌≡◌, ◌↔◌, ℕ, Bool, ◌||◌, List, ◌++◌, map, take, length, IsTrue}
use Rattle.std.specs.List.Sorted.{IsStrictlySortedBy}
use Rattle.ap_symbol.specs.Alphabet.{has_letter}
use Rattle.ap_symbol.specs.Fitting.{lists_fit}
use Rattle.ap_symbol.specs.Lists.{IsIn}
use Rattle.ap_symbol.specs.Rendering.{word_cmp}
use Rattle.ap_symbol.specs.declared.symbol.Symbol.{Symbol}
use Rattle.ap_fst.specs.Machines.{Machine}
use Rattle.ap_fst.specs.Sections.{Parts, section_of}
use Rattle.ap_fst.specs.Sides.{left_word, right_word}
use Rattle.ap_fst.specs.Walks.{AcceptsLabels}
use Rattle.ap_fst.specs.declared.compiled.Kind2.{Kind2}
use Rattle.ap_fst.specs.declared.label.Label.{Label}
use Rattle.ap_live.specs.Fitting.{Input}
use Rattle.ap_live.specs.Found.{outputs, is_viable}

pub record Lexicon : Type 0 where
  -- whether a character is alphabetic
  pub is_letter : ℕ → Bool
  -- of each kind of section, the right words of the left words that fit these input symbols, in the
  -- order of words, each once
  pub readings : Kind2 → List Symbol → List (List Symbol)
  -- whether these input symbols fit a beginning of a left word of any kind
  pub viable : List Symbol → Bool

-- some left word of some kind is related to a right word, and these symbols fit a beginning of it
pub record Begins (sensitive : Bool) (relates : Kind2 → List Symbol → List Symbol → Type 0)
    (symbols : List Symbol) : Type 0 where
  pub kind : Kind2
  pub left : List Symbol
  pub right : List Symbol
  pub related : relates kind left right
  pub fit : IsTrue (lists_fit sensitive (take (length symbols) left) symbols)

-- some left word of that kind fits these symbols, and this is a right word of it
pub record Reads (sensitive : Bool) (relates : Kind2 → List Symbol → List Symbol → Type 0)
    (kind : Kind2) (symbols right : List Symbol) : Type 0 where
  pub left : List Symbol
  pub related : relates kind left right
  pub fit : IsTrue (lists_fit sensitive left symbols)

-- The lexicon is that of a relation between left words and right words, for each kind of section,
-- and of an alphabet. Where case counts (`sensitive`), a symbol fits itself alone; where it does
-- not, a small letter fits its capital too.
pub record IsLexiconOf (lexicon : Lexicon) (sensitive : Bool) (letters : ℕ → Bool)
    (relates : Kind2 → List Symbol → List Symbol → Type 0) : Type 0 where
  pub alphabet : (c : ℕ) → lexicon.is_letter c ≡ letters c
  pub exactly : (kind : Kind2) (symbols right : List Symbol) →
      IsIn right (lexicon.readings kind symbols) ↔ Reads sensitive relates kind symbols right
  pub order : (kind : Kind2) (symbols : List Symbol) →
      IsStrictlySortedBy word_cmp (lexicon.readings kind symbols)
  pub beginnings : (symbols : List Symbol) → IsTrue (lexicon.viable symbols)
      ↔ Begins sensitive relates symbols

-- what symbols fit a beginning of is no less where they are fewer, and what they read they fit
pub record IsCoherent (lexicon : Lexicon) : Type 0 where
  pub shorter : (symbols more : List Symbol) → IsTrue (lexicon.viable (symbols ++ more)) →
      IsTrue (lexicon.viable symbols)
  pub read : (kind : Kind2) (symbols word : List Symbol) → IsIn word (lexicon.readings kind symbols)
      → IsTrue (lexicon.viable symbols)

-- the label strings that a transducer accepts, as pairs of a left word and a right word
pub record Spelled (m : Machine) (left right : List Symbol) : Type 0 where
  pub labels : List Label
  pub accepted : AcceptsLabels m labels
  pub left_is : left_word labels ≡ left
  pub right_is : right_word labels ≡ right

abbrev pub inputs_of : Bool → List Symbol → List Input
inputs_of sensitive symbols = map (λ x. record { symbol = x; sensitive = sensitive }) symbols

-- some section of the compiled dictionary has a left word that the symbols fit a beginning of
abbrev pub viable_in : Parts → Bool → List Symbol → Bool
viable_in p sensitive symbols = is_viable p.standard (inputs_of sensitive symbols)
    || is_viable p.inconditional (inputs_of sensitive symbols)
    || is_viable p.postblank (inputs_of sensitive symbols)
    || is_viable p.preblank (inputs_of sensitive symbols)

-- The lexicon of a compiled dictionary, found along its edges. Its rule is `IsLexiconOf`: it is
-- that of what the sections relate and of the alphabet, by the law `compiled_have_lexicons`, and a
-- relation has no other, by `one_lexicon`.
abbrev pub lexicon_of : Parts → Bool → Lexicon
lexicon_of p sensitive =
    record {
      is_letter = has_letter p.alphabet;
      readings =
          λ kind symbols. outputs (section_of p kind) (inputs_of sensitive symbols);
      viable =
          viable_in p sensitive;
    }
