use Rattle.ap_command.specs.Words.{texts}
use Rattle.ap_command.proofs.Told.{says-as, limit-of-stage, limit-of-file, limit-of-input}
use Rattle.ap_command.proofs.messages.say_limit.Goals as goal

pub returns-then-stage-ne0 : goal.returns-then-stage-ne0
returns-then-stage-ne0 g c =
    says-as _ _ (limit-of-stage (texts c.args.words.now) c.args.stage c.args.kind c.args.place
    c.limit_name.result.now c.if-stage-ne0.true c.limit_name.ensures) c.say_stage.ensures

pub returns-then-kind-eq6 : goal.returns-then-kind-eq6
returns-then-kind-eq6 g c =
    says-as _ _ (limit-of-file (texts c.args.words.now) c.args.stage c.args.kind c.args.place
    c.name.result.now c.if-stage-ne0.false c.if-kind-eq6.true c.name.ensures) c.say_file.ensures

pub returns : goal.returns
returns g c = says-as _ _
    (limit-of-input (texts c.args.words.now) c.args.stage c.args.kind c.args.place
    c.if-stage-ne0.false c.if-kind-eq6.false) c.say.ensures
