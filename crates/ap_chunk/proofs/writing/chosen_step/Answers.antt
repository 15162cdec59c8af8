use Rattle.std.proofs.Common.{arith, ◌≡◌, ◌∙◌}
use Rattle.ap_chunk.specs.Stages.{rule_step, chosen_step}
use Rattle.ap_chunk.specs.Working.{meant}
use Rattle.ap_chunk.specs.declared.writing.Written.{Written}
use Rattle.std.proofs.Common.{take}
use Rattle.ap_chunk.proofs.Firsts.{some_taken, rule_chosen, words_taken}
use Rattle.ap_chunk.proofs.Lives.{if_ok}
use Rattle.ap_chunk.proofs.writing.chosen_step.Goals as goal

pub rule_step-requires-clause-words : goal.rule_step-requires-clause-words
rule_step-requires-clause-words c =
    words_taken c.args.rules.now.form c.args.reads.now c.args.front.taken c.args.words.now
    (some_taken c.args.rules.now c.args.vars.now c.args.reads.now c.args.front.choice
    c.args.front.taken c.requires.taken c.in-Some.choice c.in-Some.is
    (omega (arith, c.if-choice-eq0.false)) c.requires.some) c.requires.words

pub returns-else-choice-eq0 : goal.returns-else-choice-eq0
returns-else-choice-eq0 c =
    let rules = c.args.rules.now in
    let vars = c.args.vars.now in
    let held = c.rule_step.new.vars in
    if_ok c.rule_step.result (λ (made : Written). meant made held
    ≡ rule_step rules c.in-Some.choice.rule vars (take c.args.front.taken c.args.reads.now)) (λ
    (made : Written). meant made held
    ≡ chosen_step rules vars c.args.reads.now c.args.front.choice)
    (λ made h. h ∙ rule_chosen rules vars c.args.reads.now c.args.front.choice c.args.front.taken
    c.requires.taken c.in-Some.choice c.in-Some.is (omega (arith, c.if-choice-eq0.false)))
    c.rule_step.ensures
