-- The label strings of an expression.
use Rattle.std.specs.Prelude.{◌≡◌, ◌⊎◌, ℕ, ◌+◌, ◌<◌, ◌≤◌, not, IsTrue, List, [], ◌∷◌, get_or}
use Rattle.std.specs.Char.{IsScalar}
use Rattle.ap_symbol.specs.Words.{is_white}
use Rattle.ap_symbol.specs.declared.symbol.Symbol.{Symbol}
use Rattle.ap_symbol.specs.declared.symbol.Symbol.TheVariants.{Letter}
use Rattle.ap_dix.specs.Derivation.{Label as EntryLabel, paired}
use Rattle.ap_dix.specs.declared.expr.Range.{Range}

-- the labels of a string of that kind: each symbol with itself
pub record OfStrings (P : List Symbol → Type 0) (labels : List EntryLabel) : Type 0 where
  pub string : List Symbol
  pub held : P string
  pub is : labels ≡ paired string string

-- the character of that code, which is no white space
pub record IsCode (code : ℕ) (string : List Symbol) : Type 0 where
  pub is : string ≡ Letter code ∷ []
  pub scalar : IsScalar code
  pub dark : IsTrue (not (is_white code))

-- such a character from the first code on, and before the end
pub record IsOfSpan (first end : ℕ) (string : List Symbol) : Type 0 where
  pub code : ℕ
  pub low : first ≤ code
  pub high : code < end
  pub is_code : IsCode code string

abbrev pub range_first : Range → ℕ
range_first r = r.first

-- the codes before this one that are not before the first of range `i` lie in one of the ranges
-- below `i`: it is 0 or ends one of those
abbrev pub IsCovered : List Range → ℕ → ℕ → Type 0
IsCovered ranges i next =
    (next ≡ 0) ⊎ ((k : ℕ) × (k < i)
    × (next ≡ (get_or ranges k (record { first = 0; last = 0 })).last + 1))
