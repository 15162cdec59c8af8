use Rattle.ap_passes.specs.Passes.{first_pass}
use Rattle.ap_command.specs.Rows.{FirstReadings}
use Rattle.ap_command.proofs.Flowing.{stage-by}
use Rattle.ap_command.proofs.stages.first_stage.Goals as goal

pub returns-clause-stage : goal.returns-clause-stage
returns-clause-stage c =
    stage-by FirstReadings _ first_pass c.new-stage.ensures.rest (λ n e. e)
    c.first_keeps_superblanks.ensures c.first_is_read.ensures
