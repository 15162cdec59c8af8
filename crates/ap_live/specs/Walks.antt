-- What an earlier walk met, and where two walks go on alike.
use Rattle.std.specs.Prelude.{◌≡◌, ◌⊎◌, ℕ, ◌+◌, Bool, List, ◌++◌}
use Rattle.ap_symbol.specs.declared.symbol.Symbol.{Symbol}
use Rattle.ap_fst.specs.Lists.{IsIn}
use Rattle.ap_fst.specs.Sections.{Parts, section_of}
use Rattle.ap_fst.specs.declared.compiled.Kind2.{Kind2}
use Rattle.ap_fst.specs.declared.compiled.Kind2.TheVariants.{Standard, Inconditional, Postblank, Preblank}
use Rattle.ap_live.specs.Found.{has_words}
use Rattle.ap_live.specs.Lexicon.{Lexicon, inputs_of, lexicon_of}
use Rattle.ap_live.specs.Reached.{AreReached}
use Rattle.ap_live.specs.SectionLives.{AreLive}
use Rattle.ap_live.specs.declared.live_sections.LiveSections.{LiveSections}
use Rattle.ap_live.specs.declared.met.Met.{Met}
use Rattle.ap_live.specs.declared.notes.Note.{Note}
use Rattle.ap_live.specs.declared.walked.Walked.{Walked}

-- Walks over one and over two go on alike: whatever symbols come behind both, either both fit a
-- beginning of a left word or neither does, and of each kind either both have right words or
-- neither has.
pub record GoAlike (lexicon : Lexicon) (one two : List Symbol) : Type 0 where
  pub viable : (more : List Symbol) → lexicon.viable (one ++ more) ≡ lexicon.viable (two ++ more)
  pub reads : (kind : Kind2) (more : List Symbol) →
      has_words (lexicon.readings kind (one ++ more))
      ≡ has_words (lexicon.readings kind (two ++ more))

-- the states that were met in the section of a kind
abbrev pub states_in : Met → Kind2 → List ℕ
states_in met Standard = met.standard.items
states_in met Inconditional = met.inconditional.items
states_in met Postblank = met.postblank.items
states_in met Preblank = met.preblank.items

-- what a walk over these symbols meets
abbrev pub AreMet : Parts → Bool → List Symbol → Met → Type 0
AreMet p sensitive symbols met = (kind : Kind2) →
    AreReached (section_of p kind) (inputs_of sensitive symbols) (states_in met kind)

-- the same states in each section
abbrev pub IsSameMet : Met → Met → Type 0
IsSameMet one two = (kind : Kind2) → states_in one kind ≡ states_in two kind

-- The note has what was given.
pub record IsGiven (place ahead : ℕ) (met : Met) (note : Note) : Type 0 where
  pub place_is : note.place ≡ place
  pub ahead_is : note.ahead ≡ ahead
  pub met_is : note.met ≡ met

-- a note that the same was met at a place, with this number beside it
pub record IsFoundIn (notes : List Note) (place : ℕ) (met : Met) (ahead : ℕ) : Type 0 where
  pub note : Note
  pub listed : IsIn note notes
  pub place_is : note.place ≡ place
  pub ahead_is : note.ahead ≡ ahead
  pub same : IsSameMet note.met met

-- It is noted that so many symbols behind the first held one this was met, with that number beside
-- it.
pub record IsNoted (walked : Walked) (place ahead : ℕ) (met : Met) : Type 0 where
  pub note : Note
  pub listed : IsIn note walked.recent ⊎ IsIn note walked.earlier
  pub place_is : note.place ≡ walked.passed + place
  pub ahead_is : note.ahead ≡ ahead
  pub met_is : note.met ≡ met

-- nothing is noted
abbrev pub IsBlank : Walked → Type 0
IsBlank walked = (place ahead : ℕ) (met : Met) → IsNoted walked place ahead met → ⊥

-- It is what a walk in these sections meets, at the place and with the number that are given.
pub record IsNoteOf (place ahead : ℕ) (lives : LiveSections) (place' ahead' : ℕ)
    (met : Met) : Type 0 where
  pub place_is : place' ≡ place
  pub ahead_is : ahead' ≡ ahead
  pub met_is : (p : Parts) (sensitive : Bool) (symbols : List Symbol) →
      AreLive p sensitive symbols lives → AreMet p sensitive symbols met

-- Nothing is noted but what was, and perhaps this.
abbrev pub AddsNote : ℕ → ℕ → LiveSections → Walked → Walked → Type 0
AddsNote place ahead lives old new = (place' ahead' : ℕ) (met : Met) →
    IsNoted new place' ahead' met →
    IsNoted old place' ahead' met ⊎ IsNoteOf place ahead lives place' ahead' met

-- Nothing is noted but what was, so many places further.
abbrev pub MovesDown : ℕ → Walked → Walked → Type 0
MovesDown count old new = (place ahead : ℕ) (met : Met) →
    IsNoted new place ahead met → IsNoted old (count + place) ahead met

-- It is noted that at this place, with this number beside it, the same was met as a walk in these
-- sections meets: so both go on alike.
pub record IsMetAt (p : Parts) (walked : Walked) (place : ℕ) (lives : LiveSections)
    (ahead : ℕ) : Type 0 where
  pub met : Met
  pub noted : IsNoted walked place ahead met
  pub alike : (sensitive : Bool) (one two : List Symbol) → AreMet p sensitive one met →
      AreLive p sensitive two lives → GoAlike (lexicon_of p sensitive) one two

-- A walk over some symbols met this, and what the caller says holds of its place, its number and
-- the symbols.
pub record IsWalkOf (p : Parts) (sensitive : Bool) (Holds : ℕ → ℕ → List Symbol → Type 0)
    (place ahead : ℕ) (met : Met) : Type 0 where
  pub symbols : List Symbol
  pub met_is : AreMet p sensitive symbols met
  pub holds : Holds place ahead symbols

-- Each note is of a walk of which this holds.
abbrev pub IsWalked : Parts → Bool → (ℕ → ℕ → List Symbol → Type 0) → Walked → Type 0
IsWalked p sensitive Holds walked = (place ahead : ℕ) (met : Met) →
    IsNoted walked place ahead met → IsWalkOf p sensitive Holds place ahead met
