use Rattle.ap_format.specs.Reformatted.{ret_text}
use Rattle.ap_command.specs.Rows.{Reformats}
use Rattle.ap_command.proofs.Flowing.{stage-by, plain-never}
use Rattle.ap_command.proofs.stages.retxt_stage.Goals as goal

pub returns-clause-stage : goal.returns-clause-stage
returns-clause-stage c =
    stage-by Reformats _ ret_text c.new-stage.ensures.rest (λ n e. e) tt plain-never
