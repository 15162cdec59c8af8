use Rattle.std.proofs.Common.{◌≡◌, ◌∙◌}
use Rattle.ap_chunk.specs.Stages.{chosen_step, chunk_step}
use Rattle.ap_chunk.specs.Working.{meant}
use Rattle.ap_chunk.specs.declared.writing.Written.{Written}
use Rattle.ap_chunk.proofs.Firsts.{first_over, first_full, first_chosen}
use Rattle.ap_chunk.proofs.Lives.{if_ok}
use Rattle.ap_chunk.proofs.writing.first_step.Goals as goal

pub returns-then-is_over : goal.returns-then-is_over
returns-then-is_over c = first_over c.args.rules.now c.args.vars.now c.args.items.now c.args.front
    c.requires.front c.is_over.result c.is_over.ensures c.if-is_over.true

pub returns-then-branch : goal.returns-then-branch
returns-then-branch c =
    first_full c.args.rules.now c.args.vars.now c.args.items.now c.args.front c.requires.front
    c.is_over.result c.is_over.ensures c.if-is_over.false c.as_slice-reads.result.now
    c.as_slice.result.now c.as_slice-reads.ensures
    (c.as_slice.ensures ∙ c.in_ok-words.ensures) c.in_ok-is_overfull.field-0
    c.in_ok-is_overfull.ensures.over c.if-branch.true

pub returns : goal.returns
returns c =
    let rules = c.args.rules.now in
    let vars = c.args.vars.now in
    let held = c.chosen_step.new.vars in
    if_ok c.chosen_step.result (λ (made : Written). meant made held
    ≡ chosen_step rules vars c.as_slice-reads.result.now c.args.front.choice) (λ
    (made : Written). meant made held ≡ chunk_step rules vars c.args.items.now)
    (λ made h. h
    ∙ first_chosen rules vars c.args.items.now c.args.front c.requires.front c.is_over.result
    c.is_over.ensures c.if-is_over.false c.as_slice-reads.result.now c.as_slice.result.now
    c.as_slice-reads.ensures
    (c.as_slice.ensures ∙ c.in_ok-words.ensures) c.in_ok-is_overfull.field-0
    c.in_ok-is_overfull.ensures.over c.if-branch.false)
    c.chosen_step.ensures
