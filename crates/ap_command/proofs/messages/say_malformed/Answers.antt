use Rattle.std.proofs.Common.{ap}
use Rattle.std.specs.Prelude.{codes}
use Rattle.ap_command.specs.Messages.{stage_text}
use Rattle.ap_command.proofs.Told.{says-as}
use Rattle.ap_command.proofs.messages.say_malformed.Goals as goal

pub returns : goal.returns
returns g c = says-as _ _
    (ap (λ n. stage_text c.args.stage c.args.place (codes ": malformed ") c.args.kind n)
    c.malformed_name.ensures) c.say_stage.ensures
