use Rattle.std.proofs.Common.{subst, sym, List, []}
use Rattle.ap_live.specs.Fitting.{pick_of}
use Rattle.ap_live.specs.Spreads.{Spread}
use Rattle.ap_live.specs.declared.arrivals.Arrival.{Arrival}
use Rattle.ap_live.proofs.Spreading.{spread_below, spread_fresh, spread_sorted, to_in}
use Rattle.ap_live.proofs.rows.fill_row.Goals as goal

pub close_row-requires-clause-below : goal.close_row-requires-clause-below
close_row-requires-clause-below c =
    λ is. spread_below _ _ _ _ _ _ (to_in c.args.fst.now c.states.ensures.sound)
    (spread_sorted _ _ _ _ _ _ _ c.sort_states.ensures.members c.sort_states.ensures.distinct
    c.sort_arrivals.ensures.members
    (spread_fresh _ _ _ _ _ _ _ c.clear.ensures.items c.clear-2.ensures.items
    (c.in_ok-spread.ensures is)))

pub returns-clause-next : goal.returns-clause-next
returns-clause-next c = λ is. record {
  base = c.sort_states.new.states.items;
  taken = subst (λ (z : List Arrival). Spread c.args.fst.now.edges (pick_of c.args.pick)
      c.args.last.now [] [] c.sort_states.new.states.items z) (sym c.in_ok-close_row.ensures.taken)
      (spread_sorted _ _ _ _ _ _ _ c.sort_states.ensures.members c.sort_states.ensures.distinct
      c.sort_arrivals.ensures.members
      (spread_fresh _ _ _ _ _ _ _ c.clear.ensures.items c.clear-2.ensures.items
      (c.in_ok-spread.ensures is)));
  closed = c.in_ok-close_row.ensures.closed is;
}
