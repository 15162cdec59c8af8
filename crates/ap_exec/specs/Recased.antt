-- Of the inside: no public contract stands on this file.
-- What becomes of letters when a word is put into a case.
use Rattle.std.specs.Prelude.{ℕ, Bool, true, false, List, [], ◌∷◌}
use Rattle.ap_symbol.specs.Case.{lower_lem, upper_lem}
use Rattle.ap_symbol.specs.Recasing.{change_letter}
use Rattle.ap_symbol.specs.declared.symbol.Symbol.{Symbol}
use Rattle.ap_symbol.specs.declared.symbol.Symbol.TheVariants.{Letter}

abbrev pub letter_by : Bool → ℕ → ℕ
letter_by true c = upper_lem c
letter_by false c = lower_lem c

-- the case from behind a symbol on
abbrev pub case_behind : Bool → Symbol → Bool → Bool
case_behind up (Letter c) rest = rest
case_behind up symbol rest = up

-- the first letter in upper case or in lower case, and the letters behind it
abbrev pub recased_by : Bool → Bool → List Symbol → List Symbol
recased_by first rest [] = []
recased_by first rest (symbol ∷ word) = change_letter (letter_by first) symbol
    ∷ recased_by (case_behind first symbol rest) rest word
