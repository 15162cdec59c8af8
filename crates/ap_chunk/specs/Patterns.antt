-- Patterns, each the categories of its items in order. Rules and categories are numbers counted
-- from 0.
use Rattle.std.specs.Prelude.{◌≡◌, ℕ, suc, Bool, true, false, ◌||◌, ◌==◌, List, [], ◌∷◌, map, Option, Some, None, slice_get, if◌then◌else◌}
use Rattle.std.specs.List.{list_any}
use Rattle.std.specs.declared.vec.Vec.{Vec}
use Rattle.std.specs.declared.alloc.Global.{Global}
use Rattle.ap_rules.specs.declared.rules.Rule.{Rule}
use Rattle.ap_rules.specs.declared.rules.Rules.{Rules}

abbrev pub pattern_of : Rule → List ℕ
pattern_of rule = map (λ item. item.n) rule.pattern

-- the patterns of the rules of a file, in order
abbrev pub patterns_of : Rules → List (List ℕ)
patterns_of rules = map pattern_of rules.rules.items

abbrev pub lists : List (Vec ℕ Global) → List (List ℕ)
lists vectors = map (λ v. v.items) vectors

abbrev pub list_of : Option (List ℕ) → List ℕ
list_of None = []
list_of (Some list) = list

-- the list of that number; the empty one beyond the last
abbrev pub list_at : List (List ℕ) → ℕ → List ℕ
list_at lists n = list_of (slice_get lists n)

abbrev pub has : List ℕ → ℕ → Bool
has [] n = false
has (x ∷ xs) n = (x == n) || has xs n

abbrev pub begins_with : ℕ → List ℕ → Bool
begins_with category [] = false
begins_with category (c ∷ cs) = c == category

abbrev pub is_filled : List ℕ → Bool
is_filled [] = false
is_filled (c ∷ cs) = true

-- the first pattern without an item; how many patterns there are, where each has one
abbrev pub first_empty : List (List ℕ) → ℕ
first_empty [] = 0
first_empty (p ∷ patterns) = if is_filled p then suc (first_empty patterns) else 0

-- for each category the rules whose pattern begins with it
abbrev pub IsIndex : List (List ℕ) → List (List ℕ) → Type 0
IsIndex patterns beginning = (category rule : ℕ) → has (list_at beginning category) rule
    ≡ begins_with category (list_at patterns rule)

-- what is kept beside the patterns
pub record AreKept (patterns beginning : List (List ℕ)) (empty : ℕ) (filled : Bool) : Type 0 where
  pub index : IsIndex patterns beginning
  pub first : empty ≡ first_empty patterns
  pub some : filled ≡ list_any is_filled patterns
