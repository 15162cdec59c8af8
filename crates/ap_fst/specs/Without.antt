use Rattle.std.specs.Prelude.{◌≡◌, ℕ, Bool, false, bytes_eq, List, Option, None, Some, if◌then◌else◌}
use Rattle.std.specs.List.{flat_map}
use Rattle.std.specs.Option.{option_to_list, option_and_then}
use Rattle.ap_symbol.specs.declared.symbol.Symbol.{Symbol}
use Rattle.ap_symbol.specs.declared.symbol.Symbol.TheVariants.{Tag}
use Rattle.ap_fst.specs.Machines.{Machine}
use Rattle.ap_fst.specs.Sides.{has_side}
use Rattle.ap_fst.specs.Walks.{AcceptsLabels}
use Rattle.ap_fst.specs.declared.draft.Move.{Move}
use Rattle.ap_fst.specs.declared.label.Label.{Label}

-- the symbol is the tag of this name
abbrev pub is_that_tag : List ℕ → Symbol → Bool
is_that_tag tag (Tag name) = bytes_eq name tag
is_that_tag tag _ = false

-- a side with that tag left out
abbrev pub side_without : List ℕ → Option Symbol → Option Symbol
side_without tag None = None
side_without tag (Some symbol) = if is_that_tag tag symbol then None else Some symbol

-- a label with that tag left out of its right side
abbrev pub label_without : List ℕ → Label → Label
label_without tag label = record { left = label.left; right = side_without tag label.right }

-- what is left of a label: none where both its sides are then empty
abbrev pub left_of_label : List ℕ → Label → Option Label
left_of_label tag label =
    if has_side (label_without tag label) then Some (label_without tag label) else None

-- what is left of a label string: that tag is left out of the right sides, and a label whose two
-- sides are then empty is left out whole
abbrev pub labels_without : List ℕ → List Label → List Label
labels_without tag labels = flat_map (λ label. option_to_list (left_of_label tag label)) labels

-- the labels are what is left of a label string that the transducer accepts
pub record IsLeftOf (m : Machine) (tag : List ℕ) (labels : List Label) : Type 0 where
  pub whole : List Label
  pub accepted : AcceptsLabels m whole
  pub left_is : labels ≡ labels_without tag whole

-- a move with what is left of its label; an empty one stays
abbrev pub move_without : List ℕ → Move → Move
move_without tag move = record {
  from = move.from;
  label = option_and_then (left_of_label tag) move.label;
  to = move.to;
}
