-- What a text spells, said without reading: by the text of an alphabet and of four transducers.
use Rattle.std.specs.Prelude.{◌≡◌, ℕ, List, IsTrue}
use Rattle.ap_fst.specs.Lists.{IsIn}
use Rattle.ap_fst.specs.Machines.{Machine, IsMachine}
use Rattle.ap_fst.specs.Sections.{Parts, IsAlphabet, is_plain_label}
use Rattle.ap_fst.specs.Silence.{HasEmptySide, HasNoEmptyCycle}
use Rattle.ap_fst.specs.Trimming.{IsTrimOf}
use Rattle.ap_fst.specs.declared.label.Edge.{Edge}
use Rattle.ap_binary.specs.Held.{IsHeld}
use Rattle.ap_binary.specs.Text.{compiled_text}

-- A section as a file may have it: a transducer, with states that lead nowhere too, whose labels
-- are plain.
pub record IsRaw (m : Machine) : Type 0 where
  pub sound : IsMachine m
  pub plain : (e : Edge) → IsIn e m.edges → IsTrue (is_plain_label e.label)

-- an alphabet and such sections
pub record AreRawParts (p : Parts) : Type 0 where
  pub alphabet : IsAlphabet p.alphabet
  pub standard : IsRaw p.standard
  pub inconditional : IsRaw p.inconditional
  pub postblank : IsRaw p.postblank
  pub preblank : IsRaw p.preblank

-- Of a section without a cycle of edges with an empty left side and without an empty left word,
-- trimming leaves this.
pub record IsLeftOf (raw m : Machine) : Type 0 where
  pub cycles : HasNoEmptyCycle raw
  pub sides : HasEmptySide raw → ⊥
  pub trimmed : IsTrimOf raw m

-- The text is that of a direction or none, an alphabet and four sections, of which trimming leaves
-- this compiled dictionary.
pub record IsTextOf (text : List ℕ) (c : Parts) : Type 0 where
  pub raw : Parts
  pub text_is : text ≡ compiled_text raw
  pub are : AreRawParts raw
  pub held : IsHeld raw
  pub way : c.way ≡ raw.way
  pub alphabet : c.alphabet ≡ raw.alphabet
  pub standard : IsLeftOf raw.standard c.standard
  pub inconditional : IsLeftOf raw.inconditional c.inconditional
  pub postblank : IsLeftOf raw.postblank c.postblank
  pub preblank : IsLeftOf raw.preblank c.preblank
