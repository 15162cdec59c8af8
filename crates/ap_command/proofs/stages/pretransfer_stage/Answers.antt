use Rattle.ap_passes.specs.Passes.{split_pass}
use Rattle.ap_command.specs.Rows.{SplitWords}
use Rattle.ap_command.proofs.Flowing.{stage-by}
use Rattle.ap_command.proofs.stages.pretransfer_stage.Goals as goal

pub returns-clause-stage : goal.returns-clause-stage
returns-clause-stage c =
    stage-by SplitWords _ split_pass c.new-stage.ensures.rest (λ n e. e)
    c.pretransfer_keeps_superblanks.ensures c.pretransfer_is_read.ensures
