use Rattle.ap_command.proofs.Compounded.{alone-made}
use Rattle.ap_command.proofs.stages.alone_stage.Goals as goal

pub returns-clause-stage : goal.returns-clause-stage
returns-clause-stage c =
    alone-made c.modes_keep_superblanks.ensures c.modes_are_read.ensures c.args.compiled.now
    c.in_ok-alone.alone c.args.sensitive c.in_ok-alone.ensures
    (c.compiled_has_a_lexicon.ensures c.args.sensitive)
    (c.words_are_readable.ensures c.args.sensitive) c.mode_stage.result c.mode_stage.ensures.rest
