-- What a condition that holds conditions stands for, by its children as a list.
use Rattle.std.proofs.Common.{◌≡◌, refl, ap, ◌∙◌, map}
use mathlib.Core.Former.{Count}
use Rattle.ap_rules.specs.Plain.{PlainConditions, all_of, one_of, negated, then_condition, conditions_of}
use Rattle.ap_rules.specs.Views.{plain_condition, plain_conditions, row_conditions}
use Rattle.ap_rules.specs.declared.condition.And.{And as HeldAnd}
use Rattle.ap_rules.specs.declared.condition.Or.{Or as HeldOr}
use Rattle.ap_rules.specs.declared.condition.Not.{Not as HeldNot}
use Rattle.ap_rules.specs.declared.condition.Condition.{Condition, And, And', Or, Or', Not, Row_of-Condition, end_of-Condition, more_of-Condition, items-the_row-Condition, items_hidden-the_row-Condition-0}

abbrev row_of : Condition → (n : Count) × Row_of-Condition n
row_of (And' shape row) = (_, row)
row_of (Or' shape row) = (_, row)
row_of _ = (_, end_of-Condition)

row_conditions-items : (n : _) (row : Row_of-Condition n) →
    row_conditions row ≡ conditions_of (plain_conditions (items-the_row-Condition n row))
row_conditions-items n end_of-Condition = refl
row_conditions-items n (more_of-Condition c rest) =
    ap (then_condition (plain_condition c)) (row_conditions-items _ rest)

pub plain-And : (c : HeldAnd) →
    plain_condition (And c) ≡ all_of (conditions_of (plain_conditions c.conditions.items))
plain-And c =
    let row = row_of (And c) in
    ap all_of (row_conditions-items row.0 row.1
    ∙ ap (λ cs. conditions_of (plain_conditions cs))
    (items_hidden-the_row-Condition-0 c.conditions))

pub plain-Or : (c : HeldOr) →
    plain_condition (Or c) ≡ one_of (conditions_of (plain_conditions c.conditions.items))
plain-Or c =
    let row = row_of (Or c) in
    ap one_of (row_conditions-items row.0 row.1
    ∙ ap (λ cs. conditions_of (plain_conditions cs))
    (items_hidden-the_row-Condition-0 c.conditions))

pub plain-Not : (c : HeldNot) →
    plain_condition (Not c) ≡ negated (plain_condition c.condition.value)
plain-Not c = refl

pub ruleset views = (plain-And, plain-Or, plain-Not)
