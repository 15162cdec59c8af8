use Rattle.std.proofs.Common.{[], sym, ◌∙◌, ap, Some, None}
use Rattle.std.specs.Option.{option_map}
use Rattle.std.proofs.lemmas.List.{nil_from_length}
use Rattle.std.specs.Vec.Iter.{into_iter_items}
use Rattle.ap_dix.specs.Machines.{stack_step, stack_end, stack, stage, choices_of, run, on_some}
use Rattle.ap_dix.specs.Views.{stack_of}
use Rattle.ap_dix.proofs.Runs.{next_on, stopped_on, over_rest}
use Rattle.ap_dix.proofs.stages.choices.Goals as goal

pub loop-token-preserved : goal.loop-token-preserved
loop-token-preserved c =
    next_on stack_step (stack_of c.loop-token.stack) (Some (stack_of c.in-Some-2.next)) _
    c.in-Some.token (into_iter_items c.loop-token.token-iterator) (into_iter_items c.next.new.self)
    c.in-Some.ensures.steps.0 (sym c.in_ok-stack_step.ensures
    ∙ ap (option_map stack_of) c.in-Some-2.is) c.loop-token.invariant

pub returns-in-None-2 : goal.returns-in-None-2
unfolding choices_of
returns-in-None-2 c = ap (λ z. on_some z stack_end)
    (stopped_on stack_step (stack_of c.loop-token.stack)
    (run stack_step (Some (stack (stage [] [] None) [])) c.args.tokens.items) c.in-Some.token
    (into_iter_items c.loop-token.token-iterator) (into_iter_items c.next.new.self)
    c.in-Some.ensures.steps.0 (sym c.in_ok-stack_step.ensures
    ∙ ap (option_map stack_of) c.in-None-2.is) c.loop-token.invariant)

pub returns : goal.returns
unfolding choices_of
returns c = c.in_ok-choices.ensures
    ∙ ap (λ z. on_some z stack_end)
    (over_rest stack_step (stack_of c.loop-token.stack)
    (run stack_step (Some (stack (stage [] [] None) [])) c.args.tokens.items)
    (into_iter_items c.loop-token.token-iterator)
    (nil_from_length (into_iter_items c.loop-token.token-iterator)
    (sym c.loop-token.token-iterator.rest.ok.0 ∙ c.in-None.ensures.steps.0)) c.loop-token.invariant)
