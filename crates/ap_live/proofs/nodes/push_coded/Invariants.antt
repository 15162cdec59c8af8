use Rattle.std.proofs.Common.{ℕ, List, Option}
use Rattle.ap_symbol.specs.declared.symbol.Symbol.{Symbol}
use Rattle.ap_fst.specs.declared.label.Edge.{Edge}
use Rattle.ap_live.specs.Fitting.{Input}
use Rattle.ap_live.specs.Outlines.{IsCoded}
use Rattle.ap_live.specs.Spreads.{HasLeftBelow}
use Rattle.ap_live.specs.Trails.{AddsNodes, Grows}
use Rattle.ap_live.proofs.nodes.push_coded.Given as goal

abbrev pub invariant-loop-place : goal.invariant-loop-place
invariant-loop-place l = record {
  grown : Grows l.initial.nodes.items l.nodes.items;
  added : (edges : List Edge) (pick : Option Input) (from first : ℕ) (left : Option Symbol) →
      IsCoded edges l.fn.outline pick from first l.fn.last l.fn.low l.fn.code left →
      AddsNodes edges pick from (HasLeftBelow edges left l.place) l.fn.back
      l.initial.nodes.items l.nodes.items;
}
