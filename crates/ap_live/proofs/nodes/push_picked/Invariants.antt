use Rattle.std.proofs.Common.{ℕ}
use Rattle.ap_fst.specs.Machines.{IsSpan}
use Rattle.ap_live.specs.Fitting.{pick_of}
use Rattle.ap_live.specs.Spreads.{PlaceBelow}
use Rattle.ap_live.specs.Trails.{AddsNodes, Grows}
use Rattle.ap_live.proofs.nodes.push_picked.Given as goal

abbrev pub invariant-loop-place : goal.invariant-loop-place
invariant-loop-place l = record {
  grown : Grows l.initial.nodes.items l.nodes.items;
  added : (from : ℕ) → IsSpan l.edges from l.first l.fn.last → AddsNodes l.edges
      (pick_of l.fn.pick) from (PlaceBelow l.place) l.fn.back l.initial.nodes.items l.nodes.items;
}
