-- What a choice stands for, by its children as lists.
use Rattle.std.proofs.Common.{◌≡◌, refl, sym, ap, ◌∙◌, map}
use Rattle.ap_rules.specs.Plain.{PlainStatements, PlainWhens, choose, then_statement, then_when, statements_of, whens_of}
use Rattle.ap_rules.specs.Views.{plain_condition, plain_statement, plain_statements, plain_when, row_statements, row_whens}
use Rattle.ap_rules.specs.declared.statement.Choose.{Choose as Chosen, Choose', out-Choose, Row_of-Statement, end_of-Statement, more_of-Statement, Row_of-When, end_of-When, more_of-When, items-the_row-Statement, items-the_row-When, items_shown-the_row-Statement-0, items_shown-the_row-When-1}
use Rattle.ap_rules.specs.declared.statement.Statement.{Choose}
use Rattle.ap_rules.specs.declared.statement.Statement.TheBlock.{shown-the_row-Statement-0, shown-the_row-When-1}

row_statements-items : (n : _) (row : Row_of-Statement n) →
    row_statements row ≡ statements_of (plain_statements (items-the_row-Statement n row))
row_statements-items n end_of-Statement = refl
row_statements-items n (more_of-Statement v rest) =
    ap (then_statement (plain_statement v)) (row_statements-items _ rest)

row_whens-items : (n : _) (row : Row_of-When n) →
    row_whens row ≡ whens_of (map plain_when (items-the_row-When n row))
row_whens-items n end_of-When = refl
row_whens-items n (more_of-When test shape row rest) =
    ap (λ (x : PlainStatements). then_when (plain_condition test) x (row_whens rest))
    (row_statements-items _ row
    ∙ ap (λ ss. statements_of (plain_statements ss))
    (sym (items_shown-the_row-Statement-0 shape row)))
    ∙ ap (then_when (plain_condition test)
    (statements_of (plain_statements (shown-the_row-Statement-0 shape row).items)))
    (row_whens-items _ rest)

pub plain-Choose : (c : Chosen) → plain_statement (Choose c)
    ≡ choose (whens_of (map plain_when (out-Choose c).whens.items))
    (statements_of (plain_statements (out-Choose c).otherwise.items))
unfolding out-Choose shown-the_row-When-1 shown-the_row-Statement-0 denote.Hole.Carrier.out
    denote.Hole.Carrier.shown
plain-Choose (Choose' wshape wrow sshape srow) =
    ap (λ (x : PlainWhens). choose x (row_statements srow))
    (row_whens-items _ wrow ∙ ap (λ ws. whens_of (map plain_when ws))
    (sym (items_shown-the_row-When-1 wshape wrow)))
    ∙ ap (choose (whens_of (map plain_when (shown-the_row-When-1 wshape wrow).items)))
    (row_statements-items _ srow
    ∙ ap (λ ss. statements_of (plain_statements ss))
    (sym (items_shown-the_row-Statement-0 sshape srow)))
