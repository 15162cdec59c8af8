use Rattle.ap_rules.specs.Views.{plain_rules}
use Rattle.ap_command.proofs.Seven.{plain-row}
use Rattle.ap_command.proofs.rows.text_row.Goals as goal

pub returns-clause-row : goal.returns-clause-row
returns-clause-row c = λ mono bi gen post m b g p.
    plain-row mono bi (plain_rules c.args.files.transfer) (plain_rules c.args.files.interchunk)
    (plain_rules c.args.files.postchunk) gen post c.in_ok-row.row c.push_first.new.self
    c.push.new.self c.destxt_stage.result c.retxt_stage.result
    (c.in_ok-row.ensures.row mono bi gen post m b g p) c.in_ok-push_first.ensures.added
    c.in_ok-push.ensures.added c.destxt_stage.ensures.stage c.retxt_stage.ensures.stage
