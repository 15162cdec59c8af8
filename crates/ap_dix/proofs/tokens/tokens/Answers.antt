use Rattle.std.proofs.Common.{[], false, get_or, refl, sym, ◌∙◌, ap, Some}
use Rattle.std.specs.Option.{option_map}
use Rattle.ap_dix.specs.Machines.{telling_step, telling_end, outside, tokens_of, run, on_some}
use Rattle.ap_dix.specs.Views.{telling_of}
use Rattle.ap_dix.proofs.Runs.{next_item, stopped_item, over_items}
use Rattle.ap_dix.proofs.tokens.tokens.Goals as goal

pub pieces-preserved : goal.pieces-preserved
pieces-preserved c = next_item telling_step (telling_of c.pieces.telling)
    (Some (telling_of c.in-Some.next)) _ c.args.pieces.now c.pieces.piece-index
    (get_or c.args.pieces.now c.pieces.piece-index (record { code = 0; escaped = false }))
    (record { code = 0; escaped = false }) c.pieces-test.true refl (sym c.in_ok-telling_step.ensures
    ∙ ap (option_map telling_of) c.in-Some.is) c.pieces.invariant

pub returns-in-None : goal.returns-in-None
unfolding tokens_of
returns-in-None c = ap (λ z. on_some z telling_end)
    (stopped_item telling_step (telling_of c.pieces.telling)
    (run telling_step (Some (outside [])) c.args.pieces.now) c.args.pieces.now c.pieces.piece-index
    (get_or c.args.pieces.now c.pieces.piece-index (record { code = 0; escaped = false }))
    (record { code = 0; escaped = false }) c.pieces-test.true refl (sym c.in_ok-telling_step.ensures
    ∙ ap (option_map telling_of) c.in-None.is) c.pieces.invariant)

pub returns : goal.returns
unfolding tokens_of
returns c = c.telling_end.ensures
    ∙ ap (λ z. on_some z telling_end)
    (over_items telling_step (telling_of c.pieces.telling)
    (run telling_step (Some (outside [])) c.args.pieces.now) c.args.pieces.now c.pieces.piece-index
    c.pieces-test.false c.pieces.invariant)
