-- A dictionary as words alone are looked up in it.
use Rattle.std.specs.Prelude.{◌≡◌, ◌↔◌, Bool, false, not, List, Option, Some, None}
use Rattle.std.specs.List.{filter}
use Rattle.ap_symbol.specs.declared.symbol.Symbol.{Symbol}
use Rattle.ap_fst.specs.Machines.{Machine}
use Rattle.ap_fst.specs.Sections.{Parts}
use Rattle.ap_fst.specs.Walks.{AcceptsLabels}
use Rattle.ap_fst.specs.Without.{is_that_tag, IsLeftOf}
use Rattle.ap_fst.specs.declared.compiled.Kind2.{Kind2}
use Rattle.ap_fst.specs.declared.label.Edge.{Edge}
use Rattle.ap_fst.specs.declared.label.Label.{Label}
use Rattle.ap_live.specs.Relations.{relation_of}
use Rattle.ap_compound.specs.Tags.{left_tag, right_tag, holds, without}

-- the dictionary has this pair, but for the tag of right parts: its right word isn't that of a left
-- part, and the tag is left out of it
pub record IsPlain (compiled : Parts) (kind : Kind2) (left right : List Symbol) : Type 0 where
  pub whole : List Symbol
  pub related : relation_of compiled kind left whole
  pub alone : holds left_tag whole ≡ false
  pub right_is : right ≡ without right_tag whole

-- The dictionary of these pairs, with the same alphabet and direction.
pub record IsPlainOf (compiled made : Parts) : Type 0 where
  pub alphabet : made.alphabet ≡ compiled.alphabet
  pub way : made.way ≡ compiled.way
  pub exactly : (kind : Kind2) (left right : List Symbol) →
      relation_of made kind left right ↔ IsPlain compiled kind left right

-- a side is the tag of left parts
abbrev pub is_left_side : Option Symbol → Bool
is_left_side None = false
is_left_side (Some symbol) = is_that_tag left_tag symbol

abbrev pub stays_alone : Edge → Bool
stays_alone e = not (is_left_side e.label.right)

-- the transducer without the edges that write the tag of left parts
abbrev pub alone : Machine → Machine
alone m = record { states = m.states; edges = filter stays_alone m.edges; finals = m.finals }

-- it accepts what is left of the label strings without the tag of left parts, where the tag of
-- right parts is left out
abbrev pub IsPlainSection : Machine → Machine → Type 0
IsPlainSection section made = (labels : List Label) → AcceptsLabels made labels ↔
    IsLeftOf (alone section) right_tag labels
