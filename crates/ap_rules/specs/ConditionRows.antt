-- The conditions of the table of elements, as relations: one case for each row, and none in which
-- an element is passed over.
use Rattle.std.specs.Prelude.{◌≡◌, ℕ, false, Some, codes}
use Rattle.ap_markup.specs.NameLists.{number_of}
use Rattle.ap_markup.specs.Said.{name_of}
use Rattle.ap_markup.specs.Tree.{Tag}
use Rattle.ap_rules.specs.Children.{Children, nothing, element}
use Rattle.ap_rules.specs.Conditions.{is_caseless}
use Rattle.ap_rules.specs.Plain.{PlainValue, no_values, then_value, PlainComparison, PlainMembership, PlainCondition, PlainConditions, all_of, one_of, negated, equal, begins_with, ends_with, contains_substring, is_in, begins_with_list, ends_with_list, no_conditions, then_condition}
use Rattle.ap_rules.specs.Soundness.{HasCondition}
use Rattle.ap_rules.specs.ValueRows.{IsNamed, IsAlone, IsValue, AreValues}
use Rattle.ap_rules.specs.Values.{Scope}

-- two values, in order
pub record IsComparison (s : Scope) (tag : Tag) (own : Children) (c : PlainComparison)
    : Type 0 where
  pub caseless : c.caseless ≡ is_caseless tag.attributes
  pub values : AreValues s false own (then_value c.first (then_value c.second no_values))

-- a value, and then a list that the file defines
abbrev pub AreValueAndList : Scope → Children → PlainValue → ℕ → Type 0
AreValueAndList s (element tag own (element list inner nothing)) v n = IsValue s false tag own v
    × IsNamed (codes "list") list × (number_of s.names.lists (name_of list.attributes) ≡ Some n)
AreValueAndList s _ v n = ⊥

pub record IsMembership (s : Scope) (tag : Tag) (own : Children) (m : PlainMembership)
    : Type 0 where
  pub caseless : m.caseless ≡ is_caseless tag.attributes
  pub parts : AreValueAndList s own m.value m.list

-- the element, with these elements within it, is this condition
abbrev mutual
  pub IsCondition : Scope → Tag → Children → PlainCondition → Type 0
  IsCondition s tag own (all_of cs) = IsNamed (codes "and") tag × HasCondition cs
      × AreConditions s own cs
  IsCondition s tag own (one_of cs) = IsNamed (codes "or") tag × HasCondition cs
      × AreConditions s own cs
  IsCondition s tag own (negated c) = IsNamed (codes "not") tag
      × IsAlone own (λ (one : Tag) (its : Children). IsCondition s one its c)
  IsCondition s tag own (equal c) = IsNamed (codes "equal") tag × IsComparison s tag own c
  IsCondition s tag own (begins_with c) = IsNamed (codes "begins-with") tag
      × IsComparison s tag own c
  IsCondition s tag own (ends_with c) = IsNamed (codes "ends-with") tag × IsComparison s tag own c
  IsCondition s tag own (contains_substring c) = IsNamed (codes "contains-substring") tag
      × IsComparison s tag own c
  IsCondition s tag own (is_in m) = IsNamed (codes "in") tag × IsMembership s tag own m
  IsCondition s tag own (begins_with_list m) = IsNamed (codes "begins-with-list") tag
      × IsMembership s tag own m
  IsCondition s tag own (ends_with_list m) = IsNamed (codes "ends-with-list") tag
      × IsMembership s tag own m

  -- each of the elements is one of these conditions, in order
  pub AreConditions : Scope → Children → PlainConditions → Type 0
  AreConditions s nothing no_conditions = Unit {0}
  AreConditions s (element tag own more) (then_condition c cs) = IsCondition s tag own c
      × AreConditions s more cs
  AreConditions s _ _ = ⊥
