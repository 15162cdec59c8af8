-- The span of a match, as a sentence over whole rows of items.
use Rattle.std.specs.Prelude.{◌≡◌, ℕ, ◌≤◌, Bool, true, false, List, [], ◌∷◌, ◌++◌, length, take, if◌then◌else◌}
use Rattle.ap_stream.specs.declared.item.Read.{Read}
use Rattle.ap_rules.specs.declared.rules.Rules.{Rules}
use Rattle.ap_chunk.specs.Parts.{Part, unit, gap, wall, parts_of, some_opens, some_longer}
use Rattle.ap_chunk.specs.Patterns.{patterns_of}
use Rattle.ap_chunk.specs.Stages.{span}

-- the units among the items
abbrev pub units_among : List Part → List (ℕ → Bool)
units_among [] = []
units_among (unit u ∷ parts) = u ∷ units_among parts
units_among (gap ∷ parts) = units_among parts
units_among (wall ∷ parts) = units_among parts

-- units with one blank at most between two of them; a blank may come first behind a unit
abbrev pub IsRow : Bool → List Part → Type 0
IsRow after [] = Unit {0}
IsRow after (unit u ∷ parts) = IsRow true parts
IsRow true (gap ∷ parts) = IsRow false parts
IsRow false (gap ∷ parts) = ⊥
IsRow after (wall ∷ parts) = ⊥

-- a blank stands last; where there are no items, it does where it did before them
abbrev pub ends_in_gap : Bool → List Part → Bool
ends_in_gap last [] = last
ends_in_gap last (unit u ∷ parts) = ends_in_gap false parts
ends_in_gap last (gap ∷ parts) = ends_in_gap true parts
ends_in_gap last (wall ∷ parts) = ends_in_gap false parts

-- These units and those among the items fit the beginning of some pattern, which is longer where a
-- blank stands last.
abbrev pub FitBeginning : List (List ℕ) → List (ℕ → Bool) → List Part → Type 0
FitBeginning patterns units [] = Unit {0}
FitBeginning patterns units (part ∷ parts) =
    (if ends_in_gap false (part ∷ parts)
    then some_longer patterns (units ++ units_among (part ∷ parts))
    else some_opens patterns (units ++ units_among (part ∷ parts))) ≡ true

-- The items may be seen together as a beginning of a match: they are such a row, and fit.
pub record AreTogether (patterns : List (List ℕ)) (parts : List Part) : Type 0 where
  pub row : IsRow false parts
  pub fit : FitBeginning patterns [] parts

-- so many items from the front are together, and no more are
pub record IsGreatestSpan (patterns : List (List ℕ)) (parts : List Part) (n : ℕ) : Type 0 where
  pub within : n ≤ length parts
  pub reached : AreTogether patterns (take n parts)
  pub greatest : (m : ℕ) → m ≤ length parts → AreTogether patterns (take m parts) → m ≤ n

abbrev pub SpanIsGreatest : Type 0
SpanIsGreatest = (rules : Rules) (reads : List Read) →
    IsGreatestSpan (patterns_of rules) (parts_of rules reads) (span rules reads)
