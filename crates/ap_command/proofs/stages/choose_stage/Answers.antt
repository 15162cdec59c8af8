use Rattle.ap_choose.specs.Sentences.{chosen_text}
use Rattle.ap_command.specs.Rows.{Chooses}
use Rattle.ap_command.proofs.Flowing.{stage-by}
use Rattle.ap_command.proofs.stages.choose_stage.Goals as goal

pub returns-clause-stage : goal.returns-clause-stage
returns-clause-stage c =
    stage-by (Chooses c.args.forbidden) _ (chosen_text c.args.forbidden) c.in_ok-stage.ensures.rest
    (λ n e. e) (λ text none. c.choose_keeps_superblanks.ensures c.args.forbidden text none)
    (c.choose_is_read.ensures c.args.forbidden)
