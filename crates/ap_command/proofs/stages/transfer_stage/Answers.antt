use Rattle.std.proofs.Common.{refl}
use Rattle.ap_rules.specs.Views.{plain_rules}
use Rattle.ap_chunk.specs.Stages.{transferred_text}
use Rattle.ap_command.specs.Rows.{Transfers}
use Rattle.ap_command.proofs.Flowing.{stage-by}
use Rattle.ap_command.proofs.stages.transfer_stage.Goals as goal

pub returns-clause-stage : goal.returns-clause-stage
returns-clause-stage c =
    stage-by (Transfers (plain_rules c.args.rules)) _ (transferred_text c.args.rules)
    c.in_ok-stage.ensures.rest (λ n e. (c.args.rules, refl, e))
    (λ text none. c.sound_transfer_keeps_superblanks.ensures.keeps c.args.rules text c.requires.0
    c.requires.1 c.requires.2 none)
    (c.transfer_is_read.ensures c.args.rules c.requires.0 c.requires.1 c.requires.2)
