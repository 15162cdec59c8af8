use Rattle.std.specs.Prelude.{◌≡◌, ◌⊎◌, ℕ, List, [], ◌∷◌, ◌++◌, Some, length, map, slice_get}
use Rattle.std.specs.declared.alloc.Global.{Global}
use Rattle.std.specs.declared.vec.Vec.{Vec}

-- the lists that these vectors hold
abbrev pub lists_of : List (Vec ℕ Global) → List (List ℕ)
lists_of sets = map (λ v. v.items) sets

-- the set has this number now, and went to the end if it had none
pub record IsNumbered (old new : List (List ℕ)) (set : List ℕ) (number : ℕ) : Type 0 where
  pub at : slice_get new number ≡ Some set
  pub grew : (new ≡ old) ⊎ ((number ≡ length old) × (new ≡ old ++ set ∷ []))
