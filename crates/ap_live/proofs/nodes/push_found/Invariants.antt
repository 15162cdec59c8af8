use Rattle.std.proofs.Common.{◌≡◌, Option, Some, true}
use Rattle.ap_fst.specs.declared.label.Edge.{Edge}
use Rattle.ap_live.specs.Fitting.{Input, picks}
use Rattle.ap_live.specs.Spreads.{HasLeftBelow}
use Rattle.ap_live.specs.Trails.{AddsNodes, Grows}
use Rattle.ap_live.proofs.nodes.push_found.Given as goal

abbrev pub invariant-loop-place : goal.invariant-loop-place
invariant-loop-place l = record {
  grown : Grows l.initial.nodes.items l.nodes.items;
  added : (pick : Option Input) → ((e : Edge) → e.label.left ≡ Some l.fn.left →
      picks pick e ≡ true) → AddsNodes l.fst.edges pick l.from
      (HasLeftBelow l.fst.edges (Some l.fn.left) l.place) l.fn.back l.initial.nodes.items
      l.nodes.items;
}
