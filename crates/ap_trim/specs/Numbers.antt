-- Of the inside: no public contract stands on this file.
-- Things that are numbered in the order in which they came.
use Rattle.std.specs.Prelude.{◌≡◌, ◌⊎◌, ℕ, List, [], ◌∷◌, ◌++◌, Some, length, slice_get}

-- it has this number now, and went to the end if it had none
pub record HasNumber {X : Type 0} (old new : List X) (x : X) (number : ℕ) : Type 0 where
  pub at : slice_get new number ≡ Some x
  pub grew : (new ≡ old) ⊎ ((number ≡ length old) × (new ≡ old ++ x ∷ []))

-- what has a number keeps it
abbrev pub Keeps : {X : Type 0} → List X → List X → Type 0
Keeps {X} old new = (i : ℕ) (x : X) → slice_get old i ≡ Some x → slice_get new i ≡ Some x
