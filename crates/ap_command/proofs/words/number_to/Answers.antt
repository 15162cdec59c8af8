use Rattle.std.proofs.Common.{sym, ◌∙◌, arith}
use Rattle.ap_command.proofs.Numbers.{not-bare, number-parsed, number-unparsed}
use Rattle.ap_command.proofs.words.number_to.Goals as goal

pub returns-then-not-begins_bare : goal.returns-then-not-begins_bare
returns-then-not-begins_bare c =
    not-bare c.args.most c.args.word.now (sym c.begins_bare.ensures ∙ c.if-not-begins_bare.true)

pub returns-in-Ok : goal.returns-in-Ok
returns-in-Ok c = c.in_range.ensures
    ∙ number-parsed c.args.most c.args.word.now c.parse.result c.in-Ok.number
    c.parse.ensures.value.0 c.in-Ok.is (sym c.begins_bare.ensures ∙ c.if-not-begins_bare.false)

pub returns-in-Err : goal.returns-in-Err
returns-in-Err c =
    number-unparsed c.args.most c.args.word.now c.parse.result _ (omega (arith, c.ranges.most))
    c.parse.ensures.value.0 c.in-Err.is (sym c.begins_bare.ensures ∙ c.if-not-begins_bare.false)
