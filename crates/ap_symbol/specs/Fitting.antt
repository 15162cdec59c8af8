use Rattle.std.specs.Prelude.{◌≡◌, ℕ, Bool, true, false, ◌||◌, ◌&&◌, not, ◌==◌, ◌⊎◌, bytes_eq, List, [], ◌∷◌}
use Rattle.ap_symbol.specs.declared.symbol.Symbol.{Symbol}
use Rattle.ap_symbol.specs.declared.symbol.Symbol.TheVariants.{Letter, Tag, Blank, Join, Queue, Alarm, Star, At}
use Rattle.ap_symbol.specs.Case.{lower_lem}

-- the two are equal, or case does not count, both are letters and the lower partner of the input's
-- letter is the symbol's
abbrev pub Fits : Bool → Symbol → Symbol → Type 0
Fits sensitive symbol input =
    (symbol ≡ input) ⊎ ((sensitive ≡ false)
    × ((c : ℕ) × ((input ≡ Letter c) × (symbol ≡ Letter (lower_lem c)))))

-- the same as a test
abbrev pub fits_lem : Bool → Symbol → Symbol → Bool
fits_lem sensitive (Letter s) (Letter c) = (s == c) || (not sensitive && (s == lower_lem c))
fits_lem sensitive (Tag s) (Tag t) = bytes_eq s t
fits_lem sensitive Blank Blank = true
fits_lem sensitive Join Join = true
fits_lem sensitive Queue Queue = true
fits_lem sensitive Alarm Alarm = true
fits_lem sensitive Star Star = true
fits_lem sensitive At At = true
fits_lem sensitive _ _ = false

-- two lists fit where they have the same length and fit symbol by symbol
abbrev pub lists_fit : Bool → List Symbol → List Symbol → Bool
lists_fit sensitive [] [] = true
lists_fit sensitive (symbol ∷ symbols) (input ∷ inputs) = fits_lem sensitive symbol input
    && lists_fit sensitive symbols inputs
lists_fit sensitive _ _ = false
