-- The choice of a rule: the longest pattern that fits, and among equally long ones the rule earlier
-- in the file. A unit is the test of its categories, a rule the number of its pattern, counted from
-- 0.
use Rattle.std.specs.Prelude.{◌≡◌, ℕ, ◌≤◌, Bool, true, false, ◌&&◌, List, [], ◌∷◌, length, Option, Some, None, slice_get}
use Rattle.ap_chunk.specs.declared.choice.Choice.{Choice}

abbrev pub truth : Option Bool → Bool
truth None = false
truth (Some b) = b

-- a unit whose categories are given as a row
abbrev pub unit_of : List Bool → ℕ → Bool
unit_of row category = truth (slice_get row category)

-- the first units are of these categories, each of its own
abbrev pub fits : List ℕ → List (ℕ → Bool) → Bool
fits [] units = true
fits (c ∷ cs) [] = false
fits (c ∷ cs) (u ∷ units) = u c && fits cs units

-- the pattern of the rule has n items, and the first n units fit their categories
pub record RuleFits (patterns : List (List ℕ)) (rule : ℕ) (units : List (ℕ → Bool))
    (n : ℕ) : Type 0 where
  pub pattern : List ℕ
  pub at : slice_get patterns rule ≡ Some pattern
  pub size : n ≡ length pattern
  pub fit : fits pattern units ≡ true

pub record IsBest (patterns : List (List ℕ)) (units : List (ℕ → Bool))
    (choice : Choice) : Type 0 where
  pub fitting : RuleFits patterns choice.rule units choice.size
  pub longest : (rule n : ℕ) → RuleFits patterns rule units n → n ≤ choice.size
  pub first : (rule : ℕ) → RuleFits patterns rule units choice.size → choice.rule ≤ rule

-- the rule with the greatest n, and among these the least number; none where no rule fits
abbrev pub IsChosen : List (List ℕ) → List (ℕ → Bool) → Option Choice → Type 0
IsChosen patterns units None = (rule n : ℕ) → RuleFits patterns rule units n → ⊥
IsChosen patterns units (Some choice) = IsBest patterns units choice

-- all the units fit the beginning of the pattern
abbrev pub opens : List ℕ → List (ℕ → Bool) → Bool
opens cs [] = true
opens [] (u ∷ units) = false
opens (c ∷ cs) (u ∷ units) = u c && opens cs units

-- they fit the beginning of the pattern of some rule
pub record SomeOpens (patterns : List (List ℕ)) (units : List (ℕ → Bool)) : Type 0 where
  pub rule : ℕ
  pub pattern : List ℕ
  pub at : slice_get patterns rule ≡ Some pattern
  pub fit : opens pattern units ≡ true
