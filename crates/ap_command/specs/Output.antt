use Rattle.std.specs.Prelude.{◌≡◌, ℕ, Bool, false, List}
use Rattle.ap_symbol.specs.Alphabet.{has_letter, is_in_closure}
use Rattle.ap_symbol.specs.declared.symbol.Symbol.{Symbol}
use Rattle.ap_dix.specs.declared.dictionary.Dictionary.{Dictionary}
use Rattle.ap_dix.specs.declared.dictionary.Direction.{Direction}
use Rattle.ap_dix.specs.declared.dictionary.Kind.{Kind}
use Rattle.ap_dix.specs.declared.dictionary.Kind.TheVariants as section
use Rattle.ap_dix.specs.Derivation.{Relates}
use Rattle.ap_fst.specs.declared.compiled.Kind2.{Kind2}
use Rattle.ap_fst.specs.declared.compiled.Kind2.TheVariants.{Standard, Inconditional, Postblank, Preblank}
use Rattle.ap_compound.specs.Tags.{left_tag, right_tag, holds, without}
use Rattle.ap_live.specs.Lexicon.{Lexicon, IsLexiconOf}
use Rattle.ap_live.specs.Relations.{relation_of}
use Rattle.ap_command.specs.Said.{Said, Entries, Sections, Rules, Pairs}

-- the kind of sections of a dictionary
abbrev pub kind_of : Kind2 → Kind
kind_of Standard = section.Standard
kind_of Inconditional = section.Inconditional
kind_of Postblank = section.Postblank
kind_of Preblank = section.Preblank

-- what the entries of the sections of each kind relate that are kept in this direction
abbrev pub entries_relation : Direction → Dictionary → Kind2 → List Symbol → List Symbol → Type 0
entries_relation way d kind left right = Relates d way (kind_of kind) left right

-- What a file relates in a direction, for each kind of section: a dictionary what its entries do, a
-- compiled one the left and right words of the label strings that its sections accept, in whatever
-- direction it was compiled; other files relate nothing.
abbrev pub relation : Direction → Said → Kind2 → List Symbol → List Symbol → Type 0
relation way (Entries d) = entries_relation way d
relation way (Sections p) = relation_of p
relation way (Rules r) = λ kind left right. ⊥
relation way (Pairs ps) = λ kind left right. ⊥

-- the letters of a file: the alphabet of a dictionary, closed under case partners, or that of a
-- compiled one as it stands; others have none
abbrev pub letters_of : Said → ℕ → Bool
letters_of (Entries d) = is_in_closure d.alphabet
letters_of (Sections p) = has_letter p.alphabet
letters_of (Rules r) = λ letter. false
letters_of (Pairs ps) = λ letter. false

-- The lexicon is that of what the file relates in this direction, and of its letters. Where case
-- counts (`-c`), a letter fits itself alone.
abbrev pub IsLexicon : Direction → Said → Bool → Lexicon → Type 0
IsLexicon way content sensitive lexicon =
    IsLexiconOf lexicon sensitive (letters_of content) (relation way content)

-- Of what a file relates the words that stand alone: a right word isn't that of a left part of a
-- compound, and the tag of right parts is left out of it.
pub record RelatesAlone (relates : Kind2 → List Symbol → List Symbol → Type 0) (kind : Kind2)
    (left right : List Symbol) : Type 0 where
  pub whole : List Symbol
  pub related : relates kind left whole
  pub alone : holds left_tag whole ≡ false
  pub right_is : right ≡ without right_tag whole

-- the lexicon is that of these words, and of the letters of the file
abbrev pub IsLexiconAlone : Direction → Said → Bool → Lexicon → Type 0
IsLexiconAlone way content sensitive lexicon =
    IsLexiconOf lexicon sensitive (letters_of content) (RelatesAlone (relation way content))
