-- Of the inside: no public contract stands on this file.
-- Surfaces of small letters are not read into a word.
use Rattle.std.specs.Prelude.{◌≡◌, ◌⊎◌, ℕ, Bool, true, false, List, [], ◌≤◌, length, take}
use Rattle.ap_symbol.specs.Recasing.{case_of_lem}
use Rattle.ap_symbol.specs.Rendering.{rendering}
use Rattle.ap_symbol.specs.declared.recasing.Case.TheVariants.{Low}
use Rattle.ap_symbol.specs.declared.symbol.Symbol.{Symbol}
use Rattle.ap_stream.specs.declared.item.Read.{Read}
use Rattle.ap_analysis.specs.Fronts.{AreRead}
use Rattle.ap_analysis.specs.Licence.{surface}

-- the items are read from the first bytes of the piece, if it has any
abbrev pub AreReadIfAny : List ℕ → List Read → Type 0
AreReadIfAny piece reads = (piece ≡ []) ⊎ AreRead piece reads

-- The first so many bytes of the piece are the surface, which has no capital; or else the word is.
pub record IsSeen (piece : List ℕ) (reads : List Read) (count : ℕ) (small : Bool)
    (seen : List Symbol) : Type 0 where
  pub within : small ≡ true → count ≤ length piece
  pub bytes : small ≡ true → rendering (surface reads count) ≡ take count piece
  pub case : small ≡ true → case_of_lem (surface reads count) ≡ Low
  pub word : small ≡ false → seen ≡ surface reads count
