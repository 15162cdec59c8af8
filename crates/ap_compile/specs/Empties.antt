use Rattle.std.specs.Prelude.{◌≡◌, ◌↔◌, ℕ, Bool, IsTrue, List, [], ◌∷◌, ◌++◌, Some, slice_get}
use Rattle.std.specs.List.{flat_map}
use Rattle.ap_symbol.specs.Lists.{IsIn}
use Rattle.ap_dix.specs.Derivation.{Label as EntryLabel, Derives, is_kept, left_word}
use Rattle.ap_dix.specs.declared.dictionary.Dictionary.{Dictionary}
use Rattle.ap_dix.specs.declared.dictionary.Direction.{Direction}
use Rattle.ap_dix.specs.declared.dictionary.Entry.{Entry}
use Rattle.ap_dix.specs.declared.dictionary.EntryPart.{EntryPart}
use Rattle.ap_dix.specs.declared.dictionary.Pardef.{Pardef}
use Rattle.ap_dix.specs.declared.dictionary.Section.{Section}

-- The parts derive labels with an empty input side.
pub record IsSilent (d : Dictionary) (direction : Direction) (parts : List EntryPart) : Type 0 where
  pub labels : List EntryLabel
  pub derived : Derives d direction parts labels
  pub silent : left_word labels ≡ []

-- The entry is kept, and derives labels with an empty input side.
pub record IsEmptyEntry (d : Dictionary) (direction : Direction) (entry : Entry) : Type 0 where
  pub kept : IsTrue (is_kept direction entry)
  pub silent : IsSilent d direction entry.parts

-- one of the entries is such
pub record HasEmptyEntry (d : Dictionary) (direction : Direction)
    (entries : List Entry) : Type 0 where
  pub entry : Entry
  pub listed : IsIn entry entries
  pub empty : IsEmptyEntry d direction entry

-- the paradigm of that number has such an entry
pub record IsEmptyAt (d : Dictionary) (direction : Direction) (n : ℕ) : Type 0 where
  pub pardef : Pardef
  pub at : slice_get d.pardefs n ≡ Some pardef
  pub has : HasEmptyEntry d direction pardef.entries

-- for each of the first paradigms whether it has such an entry
pub record AreEmpties (d : Dictionary) (direction : Direction) (empties : List Bool) : Type 0 where
  pub each : (n : ℕ) (empty : Bool) → slice_get empties n ≡ Some empty →
      IsTrue empty ↔ IsEmptyAt d direction n

-- the first such entry begins on the line
pub record IsFirstEmpty (d : Dictionary) (direction : Direction) (entries : List Entry)
    (line : ℕ) : Type 0 where
  pub before : List Entry
  pub entry : Entry
  pub after : List Entry
  pub whole : entries ≡ before ++ entry ∷ after
  pub empty : IsEmptyEntry d direction entry
  pub line_is : line ≡ entry.line
  pub first : HasEmptyEntry d direction before → ⊥

-- the entries of the sections, in the order of the file
abbrev pub section_entries : List Section → List Entry
section_entries sections = flat_map (λ s. s.entries) sections
