-- The choice of a rule as a function that tries every rule on the whole list.
use Rattle.std.specs.Prelude.{◌≡◌, ℕ, ◌+◌, List, [], ◌∷◌, length, Bool, if◌then◌else◌, nat_le, Option, Some, None}
use Rattle.ap_chunk.specs.declared.choice.Choice.{Choice}
use Rattle.ap_chunk.specs.Choice.{fits, IsChosen}

-- a rule, and the categories that its pattern still wants
pub record Place : Type 0 where
  pub rule : ℕ
  pub rest : List ℕ

-- the rules with these patterns, numbered from n on
abbrev pub numbered : ℕ → List (List ℕ) → List Place
numbered n [] = []
numbered n (p ∷ patterns) = record { rule = n; rest = p } ∷ numbered (n + 1) patterns

-- the longer one, the first among equals
abbrev pub longer : Option Choice → Option Choice → Option Choice
longer None b = b
longer (Some a) None = Some a
longer (Some a) (Some b) = if nat_le b.size a.size then Some a else Some b

abbrev pub fit : ℕ → Place → List (ℕ → Bool) → Option Choice
fit n p units = if fits p.rest units
    then Some (record { rule = p.rule; size = n + length p.rest }) else None

-- every rule is tried on the whole list; n units stand before
abbrev pub chosen : ℕ → List Place → List (ℕ → Bool) → Option Choice
chosen n [] units = None
chosen n (p ∷ places) units = longer (fit n p units) (chosen n places units)

-- the choice among the rules with these patterns
abbrev pub chosen_of : List (List ℕ) → List (ℕ → Bool) → Option Choice
chosen_of patterns units = chosen 0 (numbered 0 patterns) units

-- the laws
abbrev pub TriesAll : Type 0
TriesAll = (patterns : List (List ℕ)) (units : List (ℕ → Bool)) →
    IsChosen patterns units (chosen_of patterns units)

abbrev pub OneIsChosen : Type 0
OneIsChosen = (patterns : List (List ℕ)) (units : List (ℕ → Bool)) (a b : Option Choice) →
    IsChosen patterns units a → IsChosen patterns units b → a ≡ b
