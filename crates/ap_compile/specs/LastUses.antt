-- Of the inside: no public contract stands on this file.
-- The last use of each paradigm: the number of the last paradigm whose entries name it, or, where
-- an entry of a section does, the count of the paradigms.
use Rattle.std.specs.Prelude.{◌≡◌, ℕ, ◌<◌, ◌≤◌, IsTrue, List, [], ◌∷◌, Option, Some, get_or, length, slice_get}
use Rattle.std.specs.List.{flat_map}
use Rattle.ap_symbol.specs.Lists.{IsIn}
use Rattle.ap_dix.specs.declared.dictionary.Dictionary.{Dictionary}
use Rattle.ap_dix.specs.declared.dictionary.Direction.{Direction}
use Rattle.ap_dix.specs.declared.dictionary.Entry.{Entry}
use Rattle.ap_dix.specs.declared.dictionary.EntryPart.{EntryPart}
use Rattle.ap_dix.specs.declared.dictionary.EntryPart.TheVariants.{Paradigm}
use Rattle.ap_dix.specs.declared.dictionary.Pardef.{Pardef}
use Rattle.ap_dix.specs.declared.dictionary.Section.{Section}
use Rattle.ap_fst.specs.Sketches.{Sketch}
use Rattle.ap_compile.specs.Drafts.{AreDrafts, has_draft}

-- the number of the paradigm that the part names, if it names one
abbrev pub paradigm_of : EntryPart → List ℕ
paradigm_of (Paradigm n) = n ∷ []
paradigm_of _ = []

-- those that the parts name, in order
abbrev pub paradigms_of : List EntryPart → List ℕ
paradigms_of parts = flat_map paradigm_of parts

-- those that the entries name, in order
abbrev pub paradigms_in : List Entry → List ℕ
paradigms_in entries = flat_map (λ (e : Entry). paradigms_of e.parts) entries

-- no last use became earlier
pub record AreLater (old new : List ℕ) : Type 0 where
  pub count : length new ≡ length old
  pub each : (n : ℕ) → get_or old n 0 ≤ get_or new n 0

-- the last use of each of these paradigms is this one, or a later one
abbrev pub AreUsedTo : List ℕ → List ℕ → ℕ → Type 0
AreUsedTo last paradigms at =
    (n : ℕ) → IsIn n paradigms → n < length last → at ≤ get_or last n 0

-- the entries of each paradigm use others no later than these last uses
abbrev pub CoverPardefs : List ℕ → List Pardef → Type 0
CoverPardefs last pardefs = (k : ℕ) (pardef : Pardef) → slice_get pardefs k ≡ Some pardef →
    AreUsedTo last (paradigms_in pardef.entries) k

-- and so do the entries of the sections, whose use has this number
abbrev pub CoverSections : List ℕ → List Section → ℕ → Type 0
CoverSections last sections at = (section : Section) → IsIn section sections →
    AreUsedTo last (paradigms_in section.entries) at

-- a dictionary's last uses: no entry uses a paradigm later
pub record AreLastUses (d : Dictionary) (last : List ℕ) : Type 0 where
  pub count : length last ≡ length d.pardefs
  pub pardefs : CoverPardefs last d.pardefs
  pub sections : CoverSections last d.sections (length d.pardefs)

-- Some drafts are let go, none of which is used later than this.
pub record AreReleased (last : List ℕ) (at : ℕ) (old new : List (Option Sketch)) : Type 0 where
  pub count : length new ≡ length old
  pub same : (n : ℕ) → at < get_or last n 0 → slice_get new n ≡ slice_get old n
  pub some : (n : ℕ) (draft : Sketch) → slice_get new n ≡ Some (Some draft) →
      slice_get old n ≡ Some (Some draft)

-- the drafts of the first paradigms, so many, without those that are not used from then on
pub record AreDraftsTo (d : Dictionary) (direction : Direction) (last : List ℕ) (at : ℕ)
    (drafts : List (Option Sketch)) : Type 0 where
  pub count : length drafts ≡ at
  pub made : AreDrafts d direction drafts
  pub there : (n : ℕ) → n < at → at ≤ get_or last n 0 → IsTrue (has_draft drafts n)
