use Rattle.std.proofs.Common.{ℕ, List, Option}
use Rattle.ap_symbol.specs.declared.symbol.Symbol.{Symbol}
use Rattle.ap_fst.specs.declared.label.Edge.{Edge}
use Rattle.ap_live.specs.Fitting.{pick_of}
use Rattle.ap_live.specs.Outlines.{IsCoded}
use Rattle.ap_live.specs.Spreads.{SpreadOne, HasLeftBelow}
use Rattle.ap_live.proofs.rows.spread_coded.Given as goal

abbrev pub invariant-loop-place : goal.invariant-loop-place
invariant-loop-place l = (edges : List Edge) (from first : ℕ) (left : Option Symbol) →
    IsCoded edges l.fn.outline (pick_of l.fn.pick) from first l.fn.last l.fn.low l.fn.code left
    → SpreadOne edges (pick_of l.fn.pick) from (HasLeftBelow edges left l.place)
    l.initial.states.items l.initial.links.items l.states.items l.links.items
