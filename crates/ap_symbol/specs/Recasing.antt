use Rattle.std.specs.Prelude.{ℕ, ◌-◌, Bool, ◌&&◌, nat_le, nat_lt, List, [], ◌∷◌, map, length, slice_index, if◌then◌else◌}
use Rattle.std.specs.List.{flat_map}
use Rattle.ap_symbol.specs.declared.symbol.Symbol.{Symbol}
use Rattle.ap_symbol.specs.declared.symbol.Symbol.TheVariants.{Letter}
use Rattle.ap_symbol.specs.declared.recasing.Case.{Case}
use Rattle.ap_symbol.specs.declared.recasing.Case.TheVariants.{Low, First, All}
use Rattle.ap_symbol.specs.Case.{is_upper_lem, upper_lem, lower_lem}

-- the letters of a word, in their order
abbrev pub letter_of : Symbol → List ℕ
letter_of (Letter c) = c ∷ []
letter_of _ = []

abbrev pub letters : List Symbol → List ℕ
letters word = flat_map letter_of word

-- whether a letter stands at this place and passes the test
abbrev pub passes_at : (ℕ → Bool) → List ℕ → ℕ → Bool
passes_at test cs k = nat_lt k (length cs) && test (slice_index cs k)

-- whether an upper letter stands at this place
abbrev pub is_upper_at : List ℕ → ℕ → Bool
is_upper_at cs k = passes_at is_upper_lem cs k

-- All: at least two letters, and the first and the last are upper; First: otherwise, the first is
-- upper; Low: else
abbrev pub case_by : ℕ → Bool → Bool → Case
case_by count first last =
    if nat_le 2 count && first && last then All
    else if first then First
    else Low

abbrev pub case_of_letters : List ℕ → Case
case_of_letters cs = case_by (length cs) (is_upper_at cs 0) (is_upper_at cs (length cs - 1))

-- the case of a word is that of its letters alone
abbrev pub case_of_lem : List Symbol → Case
case_of_lem word = case_of_letters (letters word)

-- a letter changed by f; every other symbol itself
abbrev pub change_letter : (ℕ → ℕ) → Symbol → Symbol
change_letter f (Letter c) = Letter (f c)
change_letter f symbol = symbol

-- a word with each letter changed by f
abbrev pub each_letter : (ℕ → ℕ) → List Symbol → List Symbol
each_letter f word = map (change_letter f) word

-- a word with its first letter changed by f, also where it stands behind other symbols
abbrev pub first_letter : (ℕ → ℕ) → List Symbol → List Symbol
first_letter f [] = []
first_letter f (Letter c ∷ rest) = Letter (f c) ∷ rest
first_letter f (symbol ∷ rest) = symbol ∷ first_letter f rest

-- a case carried to a word: Low leaves it as it is, First puts the first letter in upper case, All
-- every letter
abbrev pub carry_lem : Case → List Symbol → List Symbol
carry_lem Low word = word
carry_lem First word = first_letter upper_lem word
carry_lem All word = each_letter upper_lem word

-- a word put into a case: Low puts every letter in lower case, First does so and then puts the
-- first letter in upper case, All puts every letter in upper case
abbrev pub recase_lem : Case → List Symbol → List Symbol
recase_lem Low word = each_letter lower_lem word
recase_lem First word = first_letter upper_lem (each_letter lower_lem word)
recase_lem All word = each_letter upper_lem word
