-- What a value that holds values stands for, by its children as a list.
use Rattle.std.proofs.Common.{◌≡◌, refl, ap, ◌∙◌, map}
use mathlib.Core.Former.{Count}
use Rattle.ap_rules.specs.Plain.{PlainValues, concat, get_case_from, then_value, values_of}
use Rattle.ap_rules.specs.Views.{plain_value, plain_values, row_values}
use Rattle.ap_rules.specs.declared.value.Concat.{Concat as HeldConcat}
use Rattle.ap_rules.specs.declared.value.GetCaseFrom.{GetCaseFrom as HeldCase}
use Rattle.ap_rules.specs.declared.value.Value.{Value, Concat, Concat', GetCaseFrom, Row_of-Value, end_of-Value, more_of-Value, items-the_row-Value, items_hidden-the_row-Value-0}

abbrev row_of : Value → (n : Count) × Row_of-Value n
row_of (Concat' shape row) = (_, row)
row_of _ = (_, end_of-Value)

row_values-items : (n : _) (row : Row_of-Value n) →
    row_values row ≡ values_of (plain_values (items-the_row-Value n row))
row_values-items n end_of-Value = refl
row_values-items n (more_of-Value v rest) =
    ap (then_value (plain_value v)) (row_values-items _ rest)

pub plain-Concat : (c : HeldConcat) →
    plain_value (Concat c) ≡ concat (values_of (plain_values c.values.items))
plain-Concat c =
    let row = row_of (Concat c) in
    ap concat (row_values-items row.0 row.1
    ∙ ap (λ vs. values_of (plain_values vs)) (items_hidden-the_row-Value-0 c.values))

pub plain-GetCaseFrom : (c : HeldCase) → plain_value (GetCaseFrom c)
    ≡ get_case_from c.pos (plain_value c.value.value)
plain-GetCaseFrom c = refl

pub ruleset views = (plain-Concat, plain-GetCaseFrom)
