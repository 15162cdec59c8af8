-- Of the inside: no public contract stands on this file.
-- The readings of a unit by the numbers of their first tags: of those with one number the first
-- alone counts.
use Rattle.std.specs.Prelude.{◌≡◌, ◌⊎◌, ℕ, Bool, true, false, eqb, List, [], ◌∷◌, ◌++◌, Option, Some, None}
use Rattle.std.specs.List.{list_any}
use Rattle.ap_choose.specs.declared.chance.Chance.{Chance}
use Rattle.ap_choose.specs.Choice.{Reading}
use Rattle.ap_choose.specs.Numbering.{Numbered, number_of, bars_numbers}

abbrev pub same_number : Option ℕ → Option ℕ → Bool
same_number None None = true
same_number None (Some b) = false
same_number (Some a) None = false
same_number (Some a) (Some b) = eqb a b

-- one of the chances has this number
abbrev pub has_number : List Chance → Option ℕ → Bool
has_number chances number = list_any (λ c. same_number c.tag number) chances

abbrev pub bars_chances : Numbered → Chance → Chance → Bool
bars_chances numbers chance next = bars_numbers numbers.pairs chance.tag next.tag

-- a reading as a chance: its place, and the number of its first tag
pub record IsChance (names : List (List ℕ)) (reading : Reading) (chance : Chance) : Type 0 where
  pub place : chance.place ≡ reading.place
  pub tag : chance.tag ≡ number_of names reading.tag

-- These chances are the readings, without some whose number is there already.
abbrev pub Thins : List (List ℕ) → List Chance → List Reading → List Chance → Type 0
Thins names seen [] chances = chances ≡ []
Thins names seen (reading ∷ readings) chances =
    ((has_number seen (number_of names reading.tag) ≡ true) × Thins names seen readings chances)
    ⊎ ((chance : Chance) × (more : List Chance) × (chances ≡ chance ∷ more)
    × IsChance names reading chance × Thins names (seen ++ chance ∷ []) readings more)

-- so it is for each unit
abbrev pub AreThin : List (List ℕ) → List (List Reading) → List (List Chance) → Type 0
AreThin names [] [] = Unit {0}
AreThin names [] (chances ∷ more) = ⊥
AreThin names (readings ∷ units) [] = ⊥
AreThin names (readings ∷ units) (chances ∷ more) = Thins names [] readings chances
    × AreThin names units more
