-- Of the inside: no public contract stands on this file.
use Rattle.std.specs.Prelude.{ℕ, List, [], ◌∷◌}
use Rattle.ap_symbol.specs.declared.symbol.Symbol.{Symbol}
use Rattle.ap_symbol.specs.declared.symbol.Symbol.TheVariants.{Letter}
use Rattle.ap_symbol.specs.declared.recasing.Change.{Change}
use Rattle.ap_symbol.specs.declared.recasing.Change.TheVariants.{Keep, Lower, Upper}
use Rattle.ap_symbol.specs.Case.{lower_lem, upper_lem}
use Rattle.ap_symbol.specs.Recasing.{change_letter}

-- what a change makes of a letter
abbrev pub change_lem : Change → ℕ → ℕ
change_lem Keep c = c
change_lem Lower c = lower_lem c
change_lem Upper c = upper_lem c

-- the first letter is changed in one way, and those behind it in another
abbrev pub change_after : Change → Symbol → Change → Change
change_after change (Letter c) rest = rest
change_after change symbol rest = change

abbrev pub changed_lem : Change → Change → List Symbol → List Symbol
changed_lem first rest [] = []
changed_lem first rest (symbol ∷ word) = change_letter (change_lem first) symbol
    ∷ changed_lem (change_after first symbol rest) rest word
