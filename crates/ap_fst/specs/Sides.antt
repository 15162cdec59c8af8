use Rattle.std.specs.Prelude.{Bool, ◌||◌, List}
use Rattle.std.specs.List.{flat_map}
use Rattle.std.specs.Option.{option_to_list, is_some}
use Rattle.ap_symbol.specs.declared.symbol.Symbol.{Symbol}
use Rattle.ap_fst.specs.declared.label.Label.{Label}

-- one of the two sides has a symbol
abbrev pub has_side : Label → Bool
has_side l = is_some l.left || is_some l.right

-- the left sides, one after another
abbrev pub left_word : List Label → List Symbol
left_word labels = flat_map (λ l. option_to_list l.left) labels

-- the right sides, one after another
abbrev pub right_word : List Label → List Symbol
right_word labels = flat_map (λ l. option_to_list l.right) labels
