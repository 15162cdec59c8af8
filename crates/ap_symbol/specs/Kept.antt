-- The characters of a text, wherever they stand.
use Rattle.std.specs.Prelude.{List, ℕ, []}
use Rattle.ap_symbol.specs.declared.text.Kept.{Kept}
use Rattle.ap_symbol.specs.declared.text.Kept.TheVariants.{Empty, One, Two, Three, More}

abbrev pub kept_characters : Kept → List ℕ
kept_characters Empty = []
kept_characters (One all) = all
kept_characters (Two all) = all
kept_characters (Three all) = all
kept_characters (More all) = all.value.items
