-- Of the inside: no public contract stands on this file.
-- Words joined one after another.
use Rattle.std.specs.Prelude.{List, [], ◌∷◌, ◌++◌}
use Rattle.ap_symbol.specs.declared.symbol.Symbol.{Symbol}
use Rattle.ap_symbol.specs.declared.symbol.Symbol.TheVariants.{Join}
use Rattle.ap_rules.specs.Plain.{PlainUnit}
use Rattle.ap_rules.specs.Views.{plain_values}
use Rattle.ap_rules.specs.declared.piece.Lu.{Lu}
use Rattle.ap_rules.specs.declared.piece.Tag.{Tag}

-- one word more behind those before it
abbrev pub joined_to : List Symbol → List Symbol → List Symbol
joined_to made [] = made
joined_to [] (s ∷ word) = s ∷ word
joined_to (t ∷ made) (s ∷ word) = (t ∷ made) ++ Join ∷ s ∷ word

abbrev pub all_joined : List Symbol → List (List Symbol) → List Symbol
all_joined made [] = made
all_joined made (word ∷ words) = all_joined (joined_to made word) words

abbrev pub values_in : Lu → PlainUnit
values_in u = plain_values u.values.items

abbrev pub tag_in : Tag → PlainUnit
tag_in t = plain_values t.values.items
