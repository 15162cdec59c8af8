use Rattle.std.proofs.Common.{◌≤◌, Some}
use Rattle.ap_live.specs.Outlines.{IsOutline}
use Rattle.ap_live.specs.Trails.{Grows, Spreads}
use Rattle.ap_live.proofs.node_rows.enter_all.Given as goal

abbrev pub invariant-loop-at : goal.invariant-loop-at
invariant-loop-at l = record {
  low : l.fn.low ≤ l.at;
  grown : Grows l.initial.nodes.items l.nodes.items;
  spreads : IsOutline l.fst.edges l.outline → Spreads l.fst.edges
      (Some (record { symbol = l.input; sensitive = l.sensitive })) l.fn.low l.at
      l.initial.nodes.items l.nodes.items;
}
