use Rattle.ap_command.proofs.Flowing.{file-made}
use Rattle.ap_command.proofs.stages.file_stage.Goals as goal

pub returns-clause-stage : goal.returns-clause-stage
returns-clause-stage c =
    file-made c.dictionary_has_its_lexicon.ensures c.modes_keep_superblanks.ensures
    c.modes_are_read.ensures c.args.mode c.args.compiled c.args.sensitive
    (c.compiled_has_a_lexicon.ensures c.args.sensitive)
    (c.words_are_readable.ensures c.args.sensitive) c.mode_stage.result c.mode_stage.ensures.rest
