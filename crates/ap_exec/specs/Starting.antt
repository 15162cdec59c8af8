-- What variables hold at the start, and a new value of one.
use Rattle.std.specs.Prelude.{ℕ, List, map, set, Option, Some, None}
use Rattle.ap_symbol.specs.declared.symbol.Symbol.{Symbol}
use Rattle.ap_rules.specs.declared.rules.Rules.{Rules}

-- the words that the rules state
abbrev pub start_of : Rules → List (List Symbol)
start_of rules = map (λ variable. variable.v) rules.variables

-- a variable has a new value, where there is one
abbrev pub with_new : List (List Symbol) → ℕ → Option (List Symbol) → List (List Symbol)
with_new words at None = words
with_new words at (Some word) = set words at word
