use Rattle.ap_format.proofs.Moving.{added_count, added_stands}
use Rattle.ap_format.proofs.cutter.Cutter.add_white.Goals as goal

pub invariant_of-self-2 : goal.invariant_of-self-2
invariant_of-self-2 c =
    rw (c.kind_of_white-self-inside.ensures, c.as_slice-2.ensures.value)
    (added_stands c.self.inside.held.items c.args.piece.now _ c.min-most.result
    c.white_size-count.result (rw (← c.self.view_is) at c.requires.white)
    (rw (← c.self.view_is) at c.requires.short) c.requires.more
    (rw c.as_slice.ensures.value at c.min-most.ensures) c.white_size-count.ensures.value
    c.in_ok-extend_from_slice.ensures.items)

pub returns-clause-count : goal.returns-clause-count
returns-clause-count c =
    added_count c.self.inside.held.items c.args.piece.now c.min-most.result
    c.white_size-count.result (rw (← c.self.view_is) at c.requires.short) c.requires.more
    (rw c.as_slice.ensures.value at c.min-most.ensures) c.white_size-count.ensures.value
