-- What a text says as a compiled dictionary: the one that it spells, or its first fault.
use Rattle.std.specs.Prelude.{◌≡◌, ◌⊎◌, ℕ, ◌+◌, ◌^◌, ◌<◌, List, [], ◌∷◌, Ok, Err}
use Rattle.ap_fst.specs.Machines.{Machine}
use Rattle.ap_fst.specs.Sections.{Parts}
use Rattle.ap_fst.specs.Silence.{HasEmptySide, HasNoEmptyCycle, IsFirstOnEmptyCycle}
use Rattle.ap_fst.specs.Trimming.{IsTrimOf}
use Rattle.ap_binary.specs.Lines.{file_in, fault, line_after}
use Rattle.ap_binary.specs.declared.file.File.{File}
use Rattle.ap_binary.specs.declared.refusal.BinaryFault.{BinaryFault}
use Rattle.ap_binary.specs.declared.refusal.BinaryKind.TheVariants.{EmptyCycle, EmptySide}
use Rattle.ap_binary.specs.declared.reading.Trimmed.{Trimmed}
use Rattle.ap_binary.specs.declared.sections.Sections.{Sections}
use Rattle.ap_binary.specs.declared.sections.Written.{Written}

-- the lines of the sections are counted within 64 bits
pub record AreWithin (s : Sections) : Type 0 where
  pub standard : line_after s.standard < 2 ^ 64
  pub inconditional : line_after s.inconditional < 2 ^ 64
  pub postblank : line_after s.postblank < 2 ^ 64
  pub preblank : line_after s.preblank < 2 ^ 64

-- The section, as the file has it, has no cycle of edges with an empty left side, and accepts no
-- label string with an empty left word.
pub record IsFine (w : Written) : Type 0 where
  pub cycles : HasNoEmptyCycle w.fst
  pub sides : HasEmptySide w.fst → ⊥

-- A section's fault: EmptyCycle on the line of its first edge on such a cycle (the edge of place k
-- stands k lines below the first); and where there is no such cycle, EmptySide on its own line.
pub data IsFaultOf (w : Written) : BinaryFault → Type 0 where
  cycle : {f : BinaryFault} (j : ℕ) → IsFirstOnEmptyCycle w.fst.edges j →
      f ≡ fault EmptyCycle (w.line + 1 + j) → IsFaultOf w f
  side : {f : BinaryFault} → HasNoEmptyCycle w.fst → HasEmptySide w.fst → f ≡ fault EmptySide w.line
      → IsFaultOf w f

-- the fault of the first section that isn't fine
abbrev pub IsFirstIn : List Written → BinaryFault → Type 0
IsFirstIn [] f = ⊥
IsFirstIn (w ∷ ws) f = IsFaultOf w f ⊎ (IsFine w × IsFirstIn ws f)

abbrev pub in_order : Sections → List Written
in_order s = s.standard ∷ s.inconditional ∷ s.postblank ∷ s.preblank ∷ []

-- a section that is fine, and what trimming leaves of it
pub record IsSpelled (w : Written) (m : Machine) : Type 0 where
  pub fine : IsFine w
  pub trimmed : IsTrimOf w.fst m

pub record AreSpelled (s : Sections) (t : Trimmed) : Type 0 where
  pub standard : IsSpelled s.standard t.standard
  pub inconditional : IsSpelled s.inconditional t.inconditional
  pub postblank : IsSpelled s.postblank t.postblank
  pub preblank : IsSpelled s.preblank t.preblank

-- The text spells this compiled dictionary: its lines say a direction or none, an alphabet and
-- sections, each section is fine, and each is held trimmed.
pub record Spells (text : List ℕ) (c : Parts) : Type 0 where
  pub file : File
  pub lines : file_in text ≡ Ok file
  pub way : c.way ≡ file.way
  pub alphabet : c.alphabet ≡ file.alphabet
  pub sections : AreSpelled file.sections
      (record {
        standard = c.standard;
        inconditional = c.inconditional;
        postblank =
            c.postblank;
        preblank = c.preblank;
      })

-- This is the first fault of the text: the first of its lines, or, where these have none, that of
-- its first section that isn't fine.
pub data IsFirstFault (text : List ℕ) (f : BinaryFault) : Type 0 where
  in_lines : file_in text ≡ Err f → IsFirstFault text f
  in_sections : (file : File) → file_in text ≡ Ok file → IsFirstIn (in_order file.sections) f →
      IsFirstFault text f
