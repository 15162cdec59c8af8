use Rattle.std.proofs.Common.{inl}
use Rattle.ap_format.specs.Deformatted.{des_text}
use Rattle.ap_command.specs.Rows.{Deformats}
use Rattle.ap_command.proofs.Flowing.{stage-by}
use Rattle.ap_command.proofs.stages.destxt_stage.Goals as goal

pub returns-clause-stage : goal.returns-clause-stage
returns-clause-stage c =
    stage-by Deformats _ des_text c.new-stage.ensures.rest (λ n e. e) tt
    (λ text ending. inl (c.destxt_is_read.ensures text ending))
