use Rattle.std.proofs.Common.{ap, ◌∙◌, map}
use Rattle.ap_rules.specs.Plain.{choose, statements_of, whens_of}
use Rattle.ap_rules.specs.Views.{plain_statements, plain_when}
use Rattle.ap_rules.specs.declared.statement.Statement.TheViews.{roll-Choose, out-roll-Choose}
use Rattle.ap_rules.proofs.StatementViews.{plain-Choose}
use Rattle.ap_rules.proofs.statements.choose.Goals as goal

pub returns : goal.returns
returns c =
    plain-Choose (roll-Choose (record { whens = c.args.whens; otherwise = c.args.otherwise }))
    ∙ ap (λ x. choose (whens_of (map plain_when x.whens.items))
    (statements_of (plain_statements x.otherwise.items)))
    (out-roll-Choose (record { whens = c.args.whens; otherwise = c.args.otherwise }))
