use Rattle.std.specs.Option.{option_copied}
use Rattle.ap_live.specs.Fitting.{pick_of}
use Rattle.ap_live.specs.Spreads.{SpreadOne, HasLeftBelow}
use Rattle.ap_live.proofs.rows.spread_left.Given as goal

abbrev pub invariant-loop-at : goal.invariant-loop-at
invariant-loop-at l = SpreadOne l.fst.edges (pick_of l.fn.pick) l.from
    (HasLeftBelow l.fst.edges (option_copied l.fn.left) l.at) l.initial.states.items
    l.initial.links.items l.states.items l.links.items
