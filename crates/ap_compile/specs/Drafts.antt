use Rattle.std.specs.Prelude.{◌≡◌, ◌↔◌, ◌⊎◌, ℕ, Bool, true, false, ◌&&◌, IsTrue, List, [], ◌∷◌, ◌++◌, Option, Some, slice_get}
use Rattle.std.specs.List.{list_all}
use Rattle.ap_symbol.specs.Lists.{IsIn}
use Rattle.ap_dix.specs.Derivation.{Label as EntryLabel, Derives, is_kept}
use Rattle.ap_dix.specs.Soundness.{is_entry_symbol, is_sound_form}
use Rattle.ap_dix.specs.declared.dictionary.Dictionary.{Dictionary}
use Rattle.ap_dix.specs.declared.dictionary.Direction.{Direction}
use Rattle.ap_dix.specs.declared.dictionary.Entry.{Entry}
use Rattle.ap_dix.specs.declared.dictionary.EntryPart.{EntryPart}
use Rattle.ap_dix.specs.declared.dictionary.EntryPart.TheVariants.{Identity, Pair, Paradigm, Expression}
use Rattle.ap_dix.specs.declared.dictionary.Kind.{Kind}
use Rattle.ap_dix.specs.declared.dictionary.Pardef.{Pardef}
use Rattle.ap_dix.specs.declared.dictionary.Section.{Section}
use Rattle.ap_fst.specs.Sketches.{Sketch}
use Rattle.ap_fst.specs.Paths.{Accepts}
use Rattle.ap_fst.specs.declared.label.Label.{Label}
use Rattle.ap_compile.specs.Labels.{derived_labels, ArePlain}

-- The draft accepts exactly these label strings, and their labels are plain.
pub record IsDraftOf (P : List EntryLabel → Type 0) (draft : Sketch) : Type 0 where
  pub exact : (w : List Label) → Accepts draft w ↔ P (derived_labels w)
  pub plain : (w : List Label) → Accepts draft w → ArePlain w

-- The second draft accepts the strings of the first and these, whose labels are plain.
pub record IsMoreBy (Q : List EntryLabel → Type 0) (old new : Sketch) : Type 0 where
  pub exact : (w : List Label) → Accepts new w ↔ (Accepts old w ⊎ Q (derived_labels w))
  pub plain : ((w : List Label) → Accepts old w → ArePlain w) → (w : List Label) →
      Accepts new w → ArePlain w

-- labels of the first, and then labels of the second
pub record IsCut (P Q : List EntryLabel → Type 0) (w : List EntryLabel) : Type 0 where
  pub front : List EntryLabel
  pub back : List EntryLabel
  pub whole : w ≡ front ++ back
  pub first : P front
  pub second : Q back

-- one of the items has this with the labels
pub record Any {X : Type 0} (Q : X → List EntryLabel → Type 0) (items : List X)
    (labels : List EntryLabel) : Type 0 where
  pub item : X
  pub listed : IsIn item items
  pub holds : Q item labels

-- one entry, which is kept, with this part alone
pub record IsRenamed (direction : Direction) (entries : List Entry) (part : EntryPart) : Type 0
  where
    pub entry : Entry
    pub alone : entries ≡ entry ∷ []
    pub kept : IsTrue (is_kept direction entry)
    pub parts : entry.parts ≡ part ∷ []

-- the entry is kept and derives the labels
pub record Spells (d : Dictionary) (direction : Direction) (entry : Entry)
    (labels : List EntryLabel) : Type 0 where
  pub kept : IsTrue (is_kept direction entry)
  pub derived : Derives d direction entry.parts labels

-- a kept entry of the section, which is of that kind, derives the labels
pub record SpellsIn (d : Dictionary) (direction : Direction) (kind : Kind) (section : Section)
    (labels : List EntryLabel) : Type 0 where
  pub of_kind : section.kind ≡ kind
  pub spells : Any (Spells d direction) section.entries labels

-- a kept entry of the paradigm of that number derives the labels
pub record SpellsAt (d : Dictionary) (direction : Direction) (n : ℕ)
    (labels : List EntryLabel) : Type 0 where
  pub pardef : Pardef
  pub at : slice_get d.pardefs n ≡ Some pardef
  pub spells : Any (Spells d direction) pardef.entries labels

-- Drafts of the first paradigms, in order. A paradigm that nothing more uses may have none.
pub record AreDrafts (d : Dictionary) (direction : Direction) (drafts : List (Option Sketch)) :
    Type 0 where
  pub each : (n : ℕ) (draft : Sketch) → slice_get drafts n ≡ Some (Some draft) →
      IsDraftOf (SpellsAt d direction n) draft

abbrev pub is_draft : Option (Option Sketch) → Bool
is_draft (Some (Some draft)) = true
is_draft _ = false

-- the paradigm of that number has its draft among these
abbrev pub has_draft : List (Option Sketch) → ℕ → Bool
has_draft drafts n = is_draft (slice_get drafts n)

-- the part is sound, and the paradigm that it names has its draft among these
abbrev pub is_drafted_part : List (Option Sketch) → EntryPart → Bool
is_drafted_part drafts (Identity word) = list_all is_entry_symbol word
is_drafted_part drafts (Pair left right) = list_all is_entry_symbol left
    && list_all is_entry_symbol right
is_drafted_part drafts (Paradigm n) = has_draft drafts n
is_drafted_part drafts (Expression e text) = is_sound_form e

-- each of the parts is such
abbrev pub AreDraftedParts : List (Option Sketch) → List EntryPart → Type 0
AreDraftedParts drafts parts = IsTrue (list_all (is_drafted_part drafts) parts)

abbrev pub is_drafted_entry : List (Option Sketch) → Entry → Bool
is_drafted_entry drafts entry = list_all (is_drafted_part drafts) entry.parts

-- so is each part of the entries of the sections
abbrev pub AreDraftedSections : List (Option Sketch) → List Section → Type 0
AreDraftedSections drafts sections = IsTrue (list_all
    (λ (section : Section). list_all (is_drafted_entry drafts) section.entries) sections)
