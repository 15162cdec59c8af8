-- The conditions that elements are.
use Rattle.std.specs.Prelude.{ℕ, Bool, false, List, [], ◌∷◌, ◌++◌, Option, Some, None, codes, if◌then◌else◌}
use Rattle.std.specs.Option.{option_map, option_to_list}
use Rattle.ap_markup.specs.NameLists.{number_of}
use Rattle.ap_markup.specs.Pieces.{Pair}
use Rattle.ap_markup.specs.Said.{value_of, name_of, is_named}
use Rattle.ap_markup.specs.Tree.{Tag}
use Rattle.ap_rules.specs.Children.{Children, nothing, element, tag_within}
use Rattle.ap_rules.specs.Plain.{PlainValue, PlainComparison, PlainMembership, PlainCondition, all_of, one_of, negated, equal, begins_with, ends_with, contains_substring, is_in, begins_with_list, ends_with_list, conditions_of}
use Rattle.ap_rules.specs.Values.{Scope, is_value, on_some, values}

-- `caseless="yes"`
abbrev pub is_caseless : List Pair → Bool
is_caseless given = is_value (codes "yes") (value_of (codes "caseless") given)

-- two values, in order
abbrev pub comparison : List Pair → List PlainValue → Option PlainComparison
comparison given [] = None
comparison given (v ∷ []) = None
comparison given (v ∷ w ∷ []) =
    Some (record { caseless = is_caseless given; first = v; second = w })
comparison given (v ∷ w ∷ x ∷ more) = None

-- a value, and a list
abbrev pub membership : List Pair → List PlainValue → Option ℕ → Option PlainMembership
membership given [] list = None
membership given (v ∷ []) None = None
membership given (v ∷ []) (Some n) =
    Some (record { caseless = is_caseless given; value = v; list = n })
membership given (v ∷ w ∷ more) list = None

-- the number of the list that an element's tag names
abbrev pub list_number : Scope → Option Tag → Option ℕ
list_number s None = None
list_number s (Some tag) = number_of s.names.lists (name_of tag.attributes)

abbrev pub list_in : Scope → Children → Option ℕ
list_in s own = list_number s (tag_within (codes "list") own)

-- each of one or more conditions
abbrev pub conjunction : List PlainCondition → Option PlainCondition
conjunction [] = None
conjunction (c ∷ cs) = Some (all_of (conditions_of (c ∷ cs)))

-- one of one or more conditions
abbrev pub disjunction : List PlainCondition → Option PlainCondition
disjunction [] = None
disjunction (c ∷ cs) = Some (one_of (conditions_of (c ∷ cs)))

-- one condition
abbrev pub negation : List PlainCondition → Option PlainCondition
negation [] = None
negation (c ∷ []) = Some (negated c)
negation (c ∷ d ∷ more) = None

-- a condition without conditions in it
abbrev pub simple_condition : Scope → Tag → Children → Option PlainCondition
simple_condition s tag own =
    if is_named (codes "equal") tag
    then option_map equal (comparison tag.attributes (values s false own))
    else if is_named (codes "begins-with") tag
    then option_map begins_with (comparison tag.attributes (values s false own))
    else if is_named (codes "ends-with") tag
    then option_map ends_with (comparison tag.attributes (values s false own))
    else if is_named (codes "contains-substring") tag
    then option_map contains_substring (comparison tag.attributes (values s false own))
    else if is_named (codes "in") tag
    then option_map is_in (membership tag.attributes (values s false own) (list_in s own))
    else if is_named (codes "begins-with-list") tag
    then option_map begins_with_list
    (membership tag.attributes (values s false own) (list_in s own))
    else if is_named (codes "ends-with-list") tag
    then option_map ends_with_list
    (membership tag.attributes (values s false own) (list_in s own))
    else None

-- the condition that an element is, with the conditions within it
abbrev pub condition : Scope → Tag → Children → List PlainCondition → Option PlainCondition
condition s tag own inner =
    if is_named (codes "and") tag then conjunction inner
    else if is_named (codes "or") tag then disjunction inner
    else if is_named (codes "not") tag then negation inner
    else simple_condition s tag own

-- the conditions among the elements
abbrev pub conditions : Scope → Children → List PlainCondition
conditions s nothing = []
conditions s (element tag own more) = option_to_list (condition s tag own (conditions s own))
    ++ conditions s more
