-- What each value of the program holds: numbers of 64 bits, characters, and names of tags in UTF-8.
use Rattle.std.specs.Prelude.{◌^◌, ◌<◌, Bool, true, ◌&&◌, length, Option, Some, None, IsTrue}
use Rattle.std.specs.List.{list_all}
use Rattle.ap_symbol.specs.TagNames.{is_tag_name}
use Rattle.ap_symbol.specs.declared.symbol.Symbol.{Symbol}
use Rattle.ap_symbol.specs.declared.symbol.Symbol.TheVariants.{Letter, Tag, Blank, Join, Queue, Alarm, Star, At}
use Rattle.ap_fst.specs.Machines.{Machine}
use Rattle.ap_fst.specs.Sections.{Parts}
use Rattle.ap_fst.specs.declared.label.Edge.{Edge}
use Rattle.ap_fst.specs.declared.label.Label.{Label}
use Rattle.ap_binary.specs.Pieces.{is_character, is_utf8}

abbrev pub is_held_side : Option Symbol → Bool
is_held_side None = true
is_held_side (Some (Letter c)) = is_character c
is_held_side (Some (Tag name)) = is_utf8 name && is_tag_name name
is_held_side (Some Blank) = true
is_held_side (Some Join) = true
is_held_side (Some Queue) = true
is_held_side (Some Alarm) = true
is_held_side (Some Star) = true
is_held_side (Some At) = true

abbrev pub is_held_label : Label → Bool
is_held_label l = is_held_side l.left && is_held_side l.right

abbrev pub is_held_edge : Edge → Bool
is_held_edge e = is_held_label e.label

pub record IsHeldMachine (m : Machine) : Type 0 where
  pub states : m.states < 2 ^ 64
  pub edge_count : length m.edges < 2 ^ 64
  pub final_count : length m.finals < 2 ^ 64
  pub edges : IsTrue (list_all is_held_edge m.edges)

pub record AreHeldSections (p : Parts) : Type 0 where
  pub standard : IsHeldMachine p.standard
  pub inconditional : IsHeldMachine p.inconditional
  pub postblank : IsHeldMachine p.postblank
  pub preblank : IsHeldMachine p.preblank

pub record IsHeld (p : Parts) : Type 0 where
  pub letters : IsTrue (list_all is_character p.alphabet)
  pub sections : AreHeldSections p
