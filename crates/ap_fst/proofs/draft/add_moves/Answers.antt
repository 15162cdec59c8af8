use Rattle.ap_fst.proofs.Listing.{yielded_in}
use Rattle.ap_fst.proofs.draft.add_moves.Goals as goal

pub of-from-requires : goal.of-from-requires
of-from-requires c = (c.requires c.in-Some.next
    (yielded_in _ _ _ _ _ c.loop-next.invariant.rest c.in-Some.ensures.steps.0)).0

pub of-to-requires : goal.of-to-requires
of-to-requires c = (c.requires c.in-Some.next
    (yielded_in _ _ _ _ _ c.loop-next.invariant.rest c.in-Some.ensures.steps.0)).1
