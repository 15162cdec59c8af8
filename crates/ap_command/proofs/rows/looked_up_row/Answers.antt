use Rattle.std.proofs.Common.{false, refl}
use Rattle.ap_rules.specs.Views.{plain_rules}
use Rattle.ap_command.specs.Rows.{ByFile, Transfers}
use Rattle.ap_command.specs.declared.words.Mode.TheVariants.{B}
use Rattle.ap_command.proofs.Flowing.{two-row-of}
use Rattle.ap_command.proofs.rows.looked_up_row.Goals as goal

pub returns-clause-row : goal.returns-clause-row
returns-clause-row c = λ said kept.
    two-row-of (ByFile B said false) (Transfers (plain_rules c.args.rules)) c.in_ok-row.row
    c.push.new.self c.in_ok-lookup.lookup c.in_ok-transfer.transfer c.in_ok-row.ensures
    c.in_ok-push.ensures.added refl (c.in_ok-lookup.ensures.stage said kept)
    c.in_ok-transfer.ensures.stage
