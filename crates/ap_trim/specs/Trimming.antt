-- Which analyses a bilingual dictionary can translate.
use Rattle.std.specs.Prelude.{◌≡◌, ◌≤◌, ◌↔◌, ℕ, Bool, false, ◌||◌, IsTrue, List}
use Rattle.std.specs.List.{list_any}
use Rattle.ap_symbol.specs.Alphabet.{has_letter}
use Rattle.ap_symbol.specs.Kinds.{is_joint}
use Rattle.ap_symbol.specs.declared.symbol.Symbol.{Symbol}
use Rattle.ap_fst.specs.Machines.{Machine, IsMachine}
use Rattle.ap_fst.specs.Sections.{Parts, IsCompiled, section_of}
use Rattle.ap_fst.specs.Sides.{right_word}
use Rattle.ap_fst.specs.Walks.{AcceptsLabels}
use Rattle.ap_fst.specs.declared.compiled.Kind2.{Kind2}
use Rattle.ap_fst.specs.declared.label.Label.{Label}
use Rattle.ap_det.specs.Determinism.{IsDeterministic}
use Rattle.ap_min.specs.Canonical.{IsCanonical}
use Rattle.ap_live.specs.Found.{has_words}
use Rattle.ap_live.specs.Lexicon.{Lexicon, lexicon_of}
use Rattle.ap_live.specs.Relations.{AreSameRelations, relation_of}
use Rattle.ap_lookup.specs.Translation.{translation}

-- whether the word is taken apart before its parts are looked up
abbrev pub holds_joint : List Symbol → Bool
holds_joint word = list_any is_joint word

-- translation takes a prefix of the word, where a small letter of the dictionary fits its capital
-- too
abbrev pub is_translated : Lexicon → List Symbol → Bool
is_translated lexicon word = has_words (translation lexicon false word).heads

abbrev pub is_kept : Lexicon → List Symbol → Bool
is_kept lexicon word = holds_joint word || is_translated lexicon word

-- the analyser accepts the labels in that kind, and their right word is kept
abbrev pub Trimmed : Parts → Parts → Kind2 → List Label → Type 0
Trimmed mono bilingual kind labels = AcceptsLabels (section_of mono kind) labels ×
    IsTrue (is_kept (lexicon_of bilingual false) (right_word labels))

-- What is left of an analyser: its alphabet and its direction, and of each kind the canonical
-- transducer of the labels that are kept.
pub record IsTrimmedBy (mono bilingual made : Parts) : Type 0 where
  pub alphabet : made.alphabet ≡ mono.alphabet
  pub way : made.way ≡ mono.way
  pub exactly : (kind : Kind2) (labels : List Label) → AcceptsLabels (section_of made kind) labels ↔
      Trimmed mono bilingual kind labels
  pub canonical : (kind : Kind2) → IsCanonical (section_of made kind)

-- No transducer with at most one edge per state and label that accepts these labels has fewer states.
abbrev pub IsLeastFor : Parts → Parts → Kind2 → Machine → Type 0
IsLeastFor mono bilingual kind m = (other : Machine) → IsMachine other → IsDeterministic other →
    ((labels : List Label) → AcceptsLabels other labels ↔ Trimmed mono bilingual kind labels) →
    m.states ≤ other.states

-- Two analysers say the same: they have the same letters and one direction, and their sections
-- accept the same label strings in each kind.
pub record SayTheSame (a b : Parts) : Type 0 where
  pub letters : (c : ℕ) → has_letter a.alphabet c ≡ has_letter b.alphabet c
  pub way : a.way ≡ b.way
  pub strings : (kind : Kind2) (labels : List Label) →
      AcceptsLabels (section_of a kind) labels ↔ AcceptsLabels (section_of b kind) labels

-- Analysers that say the same leave one value, by bilingual dictionaries that relate the same words.
abbrev pub SameLeaveSame : Type 0
SameLeaveSame = (mono other bilingual second a b : Parts) → IsCompiled mono → IsCompiled other →
    IsCompiled bilingual → IsCompiled second → SayTheSame mono other →
    AreSameRelations (relation_of bilingual) (relation_of second) →
    IsTrimmedBy mono bilingual a → IsTrimmedBy other second b → a ≡ b
