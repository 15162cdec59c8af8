use Rattle.std.proofs.Common.{[], false, sym, ◌∙◌, ap, Some}
use Rattle.std.specs.Option.{option_map}
use Rattle.ap_dix.specs.Machines.{cut_step, cut_end, pieces_of, run, on_some}
use Rattle.ap_dix.specs.Views.{cut_of}
use Rattle.ap_dix.proofs.Runs.{next_item, stopped_item, over_items}
use Rattle.ap_dix.proofs.pieces.pieces.Goals as goal

pub text-preserved : goal.text-preserved
text-preserved c = next_item cut_step (cut_of c.text.cut) (Some (cut_of c.in-Some.next)) _
    c.args.text.now c.text.c-index c.c-item.result c.c-item.result c.text-test.true c.c-item.is
    (sym c.in_ok-cut_step.ensures ∙ ap (option_map cut_of) c.in-Some.is) c.text.invariant

pub returns-in-None : goal.returns-in-None
unfolding pieces_of
returns-in-None c = ap (λ z. on_some z cut_end)
    (stopped_item cut_step (cut_of c.text.cut)
    (run cut_step (Some (record { made = []; escaping = false })) c.args.text.now) c.args.text.now
    c.text.c-index c.c-item.result c.c-item.result c.text-test.true c.c-item.is
    (sym c.in_ok-cut_step.ensures ∙ ap (option_map cut_of) c.in-None.is) c.text.invariant)

pub returns : goal.returns
unfolding pieces_of
returns c = c.cut_end.ensures
    ∙ ap (λ z. on_some z cut_end)
    (over_items cut_step (cut_of c.text.cut)
    (run cut_step (Some (record { made = []; escaping = false })) c.args.text.now) c.args.text.now
    c.text.c-index c.text-test.false c.text.invariant)
