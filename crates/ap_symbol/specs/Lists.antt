use Rattle.std.specs.Prelude.{◌≡◌, ◌⊎◌, ℕ, List, [], ◌∷◌, ◌++◌, length}

-- the item stands somewhere in the list
abbrev pub IsIn : {X : Type 0} → X → List X → Type 0
IsIn x [] = ⊥
IsIn x (y ∷ ys) = (x ≡ y) ⊎ IsIn x ys

-- the item of that number, counted from 0
abbrev pub IsAt : {X : Type 0} → List X → ℕ → X → Type 0
IsAt {X} xs n x = (before after : List X) × (xs ≡ before ++ x ∷ after) × (n ≡ length before)
