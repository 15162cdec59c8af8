-- An element that is a condition by the table is read as this condition.
use Rattle.std.proofs.Common.{◌≡◌, ℕ, Bool, true, false, cond, List, [], ◌∷◌, ◌++◌, refl, sym, ap, ◌∙◌, subst, Option, Some, None, codes}
use Rattle.std.specs.Option.{option_map, option_to_list}
use Rattle.ap_markup.specs.NameLists.{number_of}
use Rattle.ap_markup.specs.Said.{name_of, is_named}
use Rattle.ap_markup.specs.Tree.{Tag}
use Rattle.ap_rules.specs.Children.{Children, nothing, element, tag_within}
use Rattle.ap_rules.specs.ConditionRows.{IsComparison, AreValueAndList, IsMembership, IsCondition, AreConditions}
use Rattle.ap_rules.specs.Conditions.{is_caseless, comparison, membership, list_number, list_in, conjunction, disjunction, negation, simple_condition, condition, conditions}
use Rattle.ap_rules.specs.Plain.{PlainValue, PlainValues, clip, lit, lit_tag, var, get_case_from, case_of, concat, blank_value, no_values, then_value, values_of, PlainComparison, PlainMembership, PlainCondition, PlainConditions, all_of, one_of, negated, equal, begins_with, ends_with, contains_substring, is_in, begins_with_list, ends_with_list, no_conditions, then_condition, conditions_of}
use Rattle.ap_rules.specs.Soundness.{HasCondition}
use Rattle.ap_rules.specs.ValueRows.{IsNamed, IsAlone, IsValue, AreValues}
use Rattle.ap_rules.specs.Values.{Scope, value, values}
use Rattle.ap_rules.proofs.ValuesRead.{by_name, one_more, value_read, list_read}

-- two values
compared_read : (s : Scope) (tag : Tag) (own : Children) (c : PlainComparison) →
    IsComparison s tag own c → comparison tag.attributes (values s false own) ≡ Some c
compared_read s tag own c is =
    ap (comparison tag.attributes) (list_read s false own (c.first ∷ c.second ∷ []) is.values)
    ∙ rw (sym is.caseless) refl

-- an element that has this name isn't read as a value
no_value : (s : Scope) (tag : Tag) (inner : List PlainValue) → IsNamed (codes "list") tag →
    value s false tag inner ≡ None
no_value s tag inner name =
    by_name (λ t. value s false t inner ≡ None) tag (codes "list") name refl

-- an element that is a value isn't a list
no_list : (s : Scope) (tag : Tag) (own : Children) (v : PlainValue) → IsValue s false tag own v →
    is_named (codes "list") tag ≡ false
no_list s tag own (clip c) (name, is) =
    by_name (λ t. is_named (codes "list") t ≡ false) tag (codes "clip") name refl
no_list s tag own (lit w) (name, is) =
    by_name (λ t. is_named (codes "list") t ≡ false) tag (codes "lit") name refl
no_list s tag own (lit_tag w) (name, is) =
    by_name (λ t. is_named (codes "list") t ≡ false) tag (codes "lit-tag") name refl
no_list s tag own (var n) (name, is) =
    by_name (λ t. is_named (codes "list") t ≡ false) tag (codes "var") name refl
no_list s tag own (get_case_from pos v) (name, at, is) =
    by_name (λ t. is_named (codes "list") t ≡ false) tag (codes "get-case-from") name refl
no_list s tag own (case_of c) (name, is) =
    by_name (λ t. is_named (codes "list") t ≡ false) tag (codes "case-of") name refl
no_list s tag own (concat vs) (name, is) =
    by_name (λ t. is_named (codes "list") t ≡ false) tag (codes "concat") name refl
no_list s tag own (blank_value pos) (name, is) =
    by_name (λ t. is_named (codes "list") t ≡ false) tag (codes "b") name refl

-- a value, and a list
listed_read : (s : Scope) (given : Tag) (own : Children) (m : PlainMembership) →
    IsMembership s given own m →
    membership given.attributes (values s false own) (list_in s own) ≡ Some m
listed_read s given own m is = parts own is.parts
  where
    member : (own : Children) → values s false own ≡ m.value ∷ [] → list_in s own ≡ Some m.list →
        membership given.attributes (values s false own) (list_in s own) ≡ Some m
    member own e h = rw (e, h) (rw (sym is.caseless) refl)

    parts : (own : Children) → AreValueAndList s own m.value m.list →
        membership given.attributes (values s false own) (list_in s own) ≡ Some m
    parts nothing h = absurd h
    parts (element tag inner nothing) h = absurd h
    parts (element tag inner (element list its nothing)) (first, name, number) =
        member (element tag inner (element list its nothing))
        (one_more (value s false tag (values s false inner)) m.value
        (option_to_list (value s false list (values s false its)) ++ []) []
        (value_read s false tag inner m.value first)
        (ap (λ (o : Option PlainValue). option_to_list o ++ [])
        (no_value s list (values s false its) name)))
        (ap (λ (b : Bool). list_number s (cond b (Some tag)
        (cond (is_named (codes "list") list) (Some list) None)))
        (no_list s tag inner m.value first)
        ∙ by_name (λ t. list_number s (cond (is_named (codes "list") t) (Some t) None)
        ≡ Some m.list) list (codes "list") name number)
    parts (element tag inner (element list its (element next more rest))) h = absurd h

alone_read : (s : Scope) (own : Children) (c : PlainCondition) → ((tag : Tag) (inner : Children) →
    IsCondition s tag inner c → condition s tag inner (conditions s inner) ≡ Some c) →
    IsAlone own (λ (one : Tag) (its : Children). IsCondition s one its c) →
    conditions s own ≡ c ∷ []
alone_read s nothing c read is = absurd is
alone_read s (element tag own nothing) c read is =
    one_more (condition s tag own (conditions s own)) c [] [] (read tag own is) refl
alone_read s (element tag own (element next inner more)) c read is = absurd is

joined : (cs : List PlainCondition) (row : PlainConditions) → conditions_of cs ≡ row →
    HasCondition row → conjunction cs ≡ Some (all_of row)
joined [] row e has = absurd (subst HasCondition (sym e) has)
joined (c ∷ cs) row e has = ap (λ (z : PlainConditions). Some (all_of z)) e

either : (cs : List PlainCondition) (row : PlainConditions) → conditions_of cs ≡ row →
    HasCondition row → disjunction cs ≡ Some (one_of row)
either [] row e has = absurd (subst HasCondition (sym e) has)
either (c ∷ cs) row e has = ap (λ (z : PlainConditions). Some (one_of z)) e

abbrev Read : Scope → Children → PlainCondition → Tag → Type 0
Read s own c t = condition s t own (conditions s own) ≡ Some c

mutual
  pub condition_read : (s : Scope) (tag : Tag) (own : Children) (c : PlainCondition) →
      IsCondition s tag own c → condition s tag own (conditions s own) ≡ Some c
  condition_read s tag own (all_of cs) (name, has, are) =
      by_name (Read s own (all_of cs)) tag (codes "and") name
      (joined (conditions s own) cs (conditions_read s own cs are) has)
  condition_read s tag own (one_of cs) (name, has, are) =
      by_name (Read s own (one_of cs)) tag (codes "or") name
      (either (conditions s own) cs (conditions_read s own cs are) has)
  condition_read s tag own (negated c) (name, is) =
      by_name (Read s own (negated c)) tag (codes "not") name
      (ap negation (alone_read s own c (λ t o h. condition_read s t o c h) is))
  condition_read s tag own (equal c) (name, is) =
      by_name (Read s own (equal c)) tag (codes "equal") name
      (ap (option_map equal) (compared_read s tag own c is))
  condition_read s tag own (begins_with c) (name, is) =
      by_name (Read s own (begins_with c)) tag (codes "begins-with") name
      (ap (option_map begins_with) (compared_read s tag own c is))
  condition_read s tag own (ends_with c) (name, is) =
      by_name (Read s own (ends_with c)) tag (codes "ends-with") name
      (ap (option_map ends_with) (compared_read s tag own c is))
  condition_read s tag own (contains_substring c) (name, is) =
      by_name (Read s own (contains_substring c)) tag (codes "contains-substring") name
      (ap (option_map contains_substring) (compared_read s tag own c is))
  condition_read s tag own (is_in m) (name, is) =
      by_name (Read s own (is_in m)) tag (codes "in") name
      (ap (option_map is_in) (listed_read s tag own m is))
  condition_read s tag own (begins_with_list m) (name, is) =
      by_name (Read s own (begins_with_list m)) tag (codes "begins-with-list") name
      (ap (option_map begins_with_list) (listed_read s tag own m is))
  condition_read s tag own (ends_with_list m) (name, is) =
      by_name (Read s own (ends_with_list m)) tag (codes "ends-with-list") name
      (ap (option_map ends_with_list) (listed_read s tag own m is))

  pub conditions_read : (s : Scope) (own : Children) (cs : PlainConditions) →
      AreConditions s own cs → conditions_of (conditions s own) ≡ cs
  conditions_read s nothing no_conditions are = refl
  conditions_read s nothing (then_condition c cs) are = absurd are
  conditions_read s (element tag own more) no_conditions are = absurd are
  conditions_read s (element tag own more) (then_condition c cs) (first, rest) =
      ap conditions_of (one_more (condition s tag own (conditions s own)) c (conditions s more)
      (conditions s more) (condition_read s tag own c first) refl)
      ∙ ap (then_condition c) (conditions_read s more cs rest)

-- one condition, in a test
pub test_read : (s : Scope) (own : Children) (c : PlainCondition) →
    IsAlone own (λ (one : Tag) (its : Children). IsCondition s one its c) →
    conditions s own ≡ c ∷ []
test_read s own c is = alone_read s own c (λ t o h. condition_read s t o c h) is
