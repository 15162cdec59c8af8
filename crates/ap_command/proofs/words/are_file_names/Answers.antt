use Rattle.std.proofs.Common.{sym, ◌∙◌, ap}
use Rattle.ap_command.specs.Words.{is_file_name_lem}
use Rattle.ap_command.proofs.Numbers.{names-on, names-not}
use Rattle.ap_command.proofs.words.are_file_names.Goals as goal

pub returns-then-not-is_file_name : goal.returns-then-not-is_file_name
returns-then-not-is_file_name c =
    names-not c.args.words.now c.loop-word.word-index c.word-item.result c.loop-word-test.true
    c.word-item.is (ap is_file_name_lem (sym c.as_str.ensures.value)
    ∙ (sym c.is_file_name.ensures ∙ c.if-not-is_file_name.true))
    c.loop-word.invariant

pub loop-word-preserved : goal.loop-word-preserved
loop-word-preserved c =
    names-on c.args.words.now c.loop-word.word-index c.word-item.result c.loop-word-test.true
    c.word-item.is (ap is_file_name_lem (sym c.as_str.ensures.value)
    ∙ (sym c.is_file_name.ensures ∙ c.if-not-is_file_name.false))
    c.loop-word.invariant
