-- Going on unit by unit: the rules that are live after so many units, and the least one whose
-- pattern is over there.
use Rattle.std.specs.Prelude.{◌≡◌, ℕ, ◌<◌, ◌≤◌, Bool, true, false, ◌&&◌, List, [], ◌∷◌, length, drop, Option, Some, None, slice_get, nat_lt, if◌then◌else◌}
use Rattle.ap_chunk.specs.declared.keeping.Met.{Met}
use Rattle.ap_chunk.specs.declared.keeping.Met.TheVariants as met
use Rattle.ap_chunk.specs.Patterns.{list_at, has, is_filled}

-- the units fit the beginning of the pattern, and it has more items
abbrev pub goes_on : List ℕ → List (ℕ → Bool) → Bool
goes_on [] units = false
goes_on (c ∷ cs) [] = true
goes_on (c ∷ cs) (u ∷ units) = u c && goes_on cs units

-- the units fit the pattern, and it has no more items
abbrev pub ends : List ℕ → List (ℕ → Bool) → Bool
ends [] [] = true
ends [] (u ∷ units) = false
ends (c ∷ cs) [] = false
ends (c ∷ cs) (u ∷ units) = u c && ends cs units

abbrev pub of_rule : (List ℕ → Bool) → Option (List ℕ) → Bool
of_rule test None = false
of_rule test (Some pattern) = test pattern

-- the rule is live after these units
abbrev pub is_live : List (List ℕ) → List (ℕ → Bool) → ℕ → Bool
is_live patterns units rule = of_rule (λ pattern. goes_on pattern units) (slice_get patterns rule)

-- its pattern is over after these units
abbrev pub is_over : List (List ℕ) → List (ℕ → Bool) → ℕ → Bool
is_over patterns units rule = of_rule (λ pattern. ends pattern units) (slice_get patterns rule)

-- the least rule that passes; none where none does
abbrev pub IsLeast : (ℕ → Bool) → Option ℕ → Type 0
IsLeast test None = (rule : ℕ) → test rule ≡ false
IsLeast test (Some least) = (test least ≡ true) × ((rule : ℕ) → test rule ≡ true → least ≤ rule)

-- these are the live rules, in any order; before the first unit they are not listed
abbrev pub AreLive : List (List ℕ) → List (ℕ → Bool) → List ℕ → Type 0
AreLive patterns units live = 0 < length units → (rule : ℕ) →
    has live rule ≡ is_live patterns units rule

pub record SomeLive (patterns : List (List ℕ)) (units : List (ℕ → Bool)) : Type 0 where
  pub rule : ℕ
  pub live : is_live patterns units rule ≡ true

-- how far a choice has come: the patterns, the number of units, the live rules, and the least rule
-- whose pattern is over
pub record Standing : Type 0 where
  pub patterns : List (List ℕ)
  pub count : ℕ
  pub live : List ℕ
  pub over : Option ℕ

-- it has come to the end of these units
pub record Stands (standing : Standing) (units : List (ℕ → Bool)) : Type 0 where
  pub counted : standing.count ≡ length units
  pub rules : AreLive standing.patterns units standing.live
  pub least : IsLeast (is_over standing.patterns units) standing.over

-- what the items that a pattern still wants are for a unit
abbrev pub met_of : (ℕ → Bool) → List ℕ → Met
met_of unit [] = met.Fails
met_of unit (c ∷ cs) = if unit c then (if is_filled cs then met.GoesOn else met.Ends) else met.Fails

abbrev pub is_on : Met → Bool
is_on met.Fails = false
is_on met.Ends = false
is_on met.GoesOn = true

abbrev pub is_end : Met → Bool
is_end met.Fails = false
is_end met.Ends = true
is_end met.GoesOn = false

-- a rule stays live with one more unit, of which so many stand before
abbrev pub stays : List (List ℕ) → ℕ → (ℕ → Bool) → ℕ → Bool
stays patterns count unit rule = is_on (met_of unit (drop count (list_at patterns rule)))

-- a rule's pattern is over with that unit
abbrev pub finishes : List (List ℕ) → ℕ → (ℕ → Bool) → ℕ → Bool
finishes patterns count unit rule = is_end (met_of unit (drop count (list_at patterns rule)))

abbrev pub lesser : Option ℕ → ℕ → Option ℕ
lesser None n = Some n
lesser (Some least) n = if nat_lt n least then Some n else Some least

abbrev pub least_from : Option ℕ → List ℕ → Option ℕ
least_from least [] = least
least_from least (n ∷ ns) = least_from (lesser least n) ns

-- the pattern begins with a category below this number that the unit has
abbrev pub starts : (ℕ → Bool) → ℕ → List ℕ → Bool
starts unit below [] = false
starts unit below (c ∷ cs) = nat_lt c below && unit c

-- the rule's pattern begins with such a category, and the rule passes
abbrev pub begun : (ℕ → Bool) → ℕ → List (List ℕ) → (ℕ → Bool) → ℕ → Bool
begun unit below patterns test rule = starts unit below (list_at patterns rule) && test rule

-- these are those of such rules that stay live with the unit, the first one
abbrev pub AreBegun : (ℕ → Bool) → ℕ → List (List ℕ) → List ℕ → Type 0
AreBegun unit below patterns live = (rule : ℕ) →
    has live rule ≡ begun unit below patterns (stays patterns 0 unit) rule
