-- The tags of words that are parts of compounds.
use Rattle.std.specs.Prelude.{ℕ, Bool, not, ◌||◌, List, codes}
use Rattle.std.specs.List.{list_any, filter}
use Rattle.ap_symbol.specs.declared.symbol.Symbol.{Symbol}
use Rattle.ap_fst.specs.Without.{is_that_tag}
use Rattle.ap_compound.specs.declared.tags.Part.{Part}
use Rattle.ap_compound.specs.declared.tags.Part.TheVariants.{Left, Right}

-- what a left part holds: a word that stands in a compound alone, and never last
abbrev pub left_tag : List ℕ
left_tag = codes "compound-only-L"

-- what a right part holds: a word that may end a compound
abbrev pub right_tag : List ℕ
right_tag = codes "compound-R"

-- what a part of this sort holds
abbrev pub tag_of : Part → List ℕ
tag_of Left = left_tag
tag_of Right = right_tag

abbrev pub holds : List ℕ → List Symbol → Bool
holds tag word = list_any (is_that_tag tag) word

abbrev pub without : List ℕ → List Symbol → List Symbol
without tag word = filter (λ symbol. not (is_that_tag tag symbol)) word

-- one of the two
abbrev pub is_part_tag : Symbol → Bool
is_part_tag symbol = is_that_tag left_tag symbol || is_that_tag right_tag symbol

-- a word without these tags
abbrev pub bare : List Symbol → List Symbol
bare word = filter (λ symbol. not (is_part_tag symbol)) word
