-- Whether a condition holds.
use Rattle.std.specs.Prelude.{ℕ, List, [], map, Bool, true, false, not, Ok, Option, Some, None, slice_get}
use Rattle.ap_symbol.specs.declared.symbol.Symbol.{Symbol}
use Rattle.ap_rules.specs.Plain.{PlainComparison, PlainMembership, PlainCondition, PlainConditions, all_of, one_of, negated, equal, begins_with, ends_with, contains_substring, is_in, begins_with_list, ends_with_list, no_conditions, then_condition}
use Rattle.ap_rules.specs.declared.rules.DefList.{DefList}
use Rattle.ap_rules.specs.declared.rules.ListItem.{ListItem}
use Rattle.ap_exec.specs.declared.comparing.Way.{Way}
use Rattle.ap_exec.specs.declared.comparing.Way.TheVariants.{Equals, Begins, Ends, Contains}
use Rattle.ap_exec.specs.Comparing.{compared, compared_some}
use Rattle.ap_exec.specs.Results.{Ran, ◌>>=◌}
use Rattle.ap_exec.specs.Units.{Sight}
use Rattle.ap_exec.specs.Values.{value_of}

abbrev pub word_in : ListItem → List Symbol
word_in item = item.v

abbrev pub words_in : Option DefList → List (List Symbol)
words_in None = []
words_in (Some list) = map word_in list.items

-- the words of the list of this number
abbrev pub words_of : List DefList → ℕ → List (List Symbol)
words_of lists n = words_in (slice_get lists n)

-- the first value compared with the second
abbrev pub compares : Way → Sight → PlainComparison → Ran Bool
compares way sight c = value_of sight c.first >>= λ a. value_of sight c.second >>= λ b. Ok
    (compared way c.caseless a b)

-- the value compared with the items of a list
abbrev pub compares_some : Way → Sight → PlainMembership → Ran Bool
compares_some way sight m =
    value_of sight m.value >>= λ a. Ok
    (compared_some way m.caseless a (words_of sight.lists m.list))

-- where the first holds, what the others say; they aren't read otherwise
abbrev pub and_then : Bool → Ran Bool → Ran Bool
and_then true later = later
and_then false later = Ok false

-- where the first doesn't hold, what the others say; they aren't read otherwise
abbrev pub or_else : Bool → Ran Bool → Ran Bool
or_else true later = Ok true
or_else false later = later

abbrev mutual
  pub holds : Sight → PlainCondition → Ran Bool
  holds sight (all_of conditions) = all_hold sight conditions
  holds sight (one_of conditions) = one_holds sight conditions
  holds sight (negated condition) = holds sight condition >>= λ b. Ok (not b)
  holds sight (equal c) = compares Equals sight c
  holds sight (begins_with c) = compares Begins sight c
  holds sight (ends_with c) = compares Ends sight c
  holds sight (contains_substring c) = compares Contains sight c
  holds sight (is_in m) = compares_some Equals sight m
  holds sight (begins_with_list m) = compares_some Begins sight m
  holds sight (ends_with_list m) = compares_some Ends sight m

  pub all_hold : Sight → PlainConditions → Ran Bool
  all_hold sight no_conditions = Ok true
  all_hold sight (then_condition c cs) = holds sight c >>= λ b. and_then b (all_hold sight cs)

  pub one_holds : Sight → PlainConditions → Ran Bool
  one_holds sight no_conditions = Ok false
  one_holds sight (then_condition c cs) = holds sight c >>= λ b. or_else b (one_holds sight cs)
