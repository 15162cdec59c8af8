-- Of the inside: no public contract stands on this file.
-- Entries gathered by the parts that they end with.
use Rattle.std.specs.Prelude.{◌≡◌, ◌↔◌, ◌⊎◌, List, [], ◌∷◌, ◌++◌, Some, map, slice_get}
use Rattle.ap_symbol.specs.Lists.{IsIn}
use Rattle.ap_dix.specs.Derivation.{Label as EntryLabel, Derives}
use Rattle.ap_dix.specs.declared.dictionary.Dictionary.{Dictionary}
use Rattle.ap_dix.specs.declared.dictionary.Direction.{Direction}
use Rattle.ap_dix.specs.declared.dictionary.Entry.{Entry}
use Rattle.ap_dix.specs.declared.dictionary.EntryPart.{EntryPart}
use Rattle.ap_fst.specs.Sketches.{Sketch}
use Rattle.ap_fst.specs.Paths.{Accepts, IsEither}
use Rattle.ap_fst.specs.declared.label.Label.{Label}
use Rattle.ap_compile.specs.Labels.{derived_labels, ArePlain}
use Rattle.ap_compile.specs.Drafts.{IsCut, Spells}
use Rattle.ap_compile.specs.declared.gathering.Gathering.{Gathering}
use Rattle.ap_compile.specs.declared.gathering.Level.{Level}
use Rattle.ap_compile.specs.declared.places.Place.{Place}

-- the entry stands at the place
abbrev pub IsPlace : List Entry → Place → Entry → Type 0
IsPlace entries place entry = slice_get entries place.entry ≡ Some entry

-- the entry stands at one of the places
pub record HasPlace (entries : List Entry) (places : List Place) (entry : Entry) : Type 0 where
  pub place : Place
  pub listed : IsIn place places
  pub at : IsPlace entries place entry

-- the entry at the place is kept and derives the labels
pub record SpellsFrom (d : Dictionary) (direction : Direction) (entries : List Entry)
    (place : Place) (labels : List EntryLabel) : Type 0 where
  pub entry : Entry
  pub at : IsPlace entries place entry
  pub spells : Spells d direction entry labels

-- the draft accepts these labels
pub record Tells (draft : Sketch) (labels : List EntryLabel) : Type 0 where
  pub string : List Label
  pub accepted : Accepts draft string
  pub same : derived_labels string ≡ labels

-- the parts of the levels, from the outermost on
abbrev pub endings : List Level → List EntryPart
endings levels = map (λ (l : Level). l.ending.now) levels

-- what entries of the innermost of these levels share at their end: its part, then those of the
-- levels around it, from the innermost on, and then these
abbrev pub shared : List EntryPart → List EntryPart → List EntryPart
shared back [] = back
shared back (part ∷ parts) = shared (part ∷ back) parts

-- labels of what stands before the shared parts of one of the levels, and then labels that these
-- derive
abbrev pub InLevels : Dictionary → Direction → List EntryPart → List Level →
    List EntryLabel → Type 0
InLevels d direction back [] labels = ⊥
InLevels d direction back (l ∷ levels) labels =
    IsCut (Tells l.fronts) (Derives d direction (l.ending.now ∷ back)) labels
    ⊎ InLevels d direction (l.ending.now ∷ back) levels labels

-- What a gathering accepts as a whole: what the draft of those done with accepts, or labels in its
-- levels.
abbrev pub Gathers : Dictionary → Direction → Gathering → List EntryLabel → Type 0
Gathers d direction g labels = Tells g.made labels ⊎ InLevels d direction [] g.levels.items labels

-- each label of the draft is plain
abbrev pub IsPlainDraft : Sketch → Type 0
IsPlainDraft draft = (w : List Label) → Accepts draft w → ArePlain w

-- each label of its drafts is plain
pub record IsPlainGathering (g : Gathering) : Type 0 where
  pub made : IsPlainDraft g.made
  pub fronts : (l : Level) → IsIn l g.levels.items → IsPlainDraft l.fronts

-- The gathering accepts exactly these label strings, and their labels are plain.
pub record IsGatheringOf (d : Dictionary) (direction : Direction) (P : List EntryLabel → Type 0)
    (g : Gathering) : Type 0 where
  pub exact : (labels : List EntryLabel) → Gathers d direction g labels ↔ P labels
  pub plain : IsPlainGathering g

-- The second gathering accepts more than the first, before what the innermost level shares: there
-- is no level, and it is among what is done with; or it stands before the part of that level.
pub data IsGrown (old : Gathering) (more : Sketch) (new : Gathering) : Type 0 where
  among_made : old.levels.items ≡ [] → new.levels.items ≡ [] →
      ((w : List Label) → Accepts new.made w ↔ IsEither old.made more w) → IsGrown old more new
  before_shared : (levels : List Level) (l m : Level) → old.levels.items ≡ levels ++ l ∷ [] →
      new.levels.items ≡ levels ++ m ∷ [] → new.made ≡ old.made → m.ending.now ≡ l.ending.now
      → ((w : List Label) → Accepts m.fronts w ↔ IsEither l.fronts more w) → IsGrown old more new
