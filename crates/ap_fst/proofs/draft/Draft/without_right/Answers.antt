use Rattle.std.proofs.Common.{List, subst, sym}
use Rattle.std.specs.Prelude.{◌↔◌}
use Rattle.ap_fst.specs.Paths.{Accepts}
use Rattle.ap_fst.specs.Sketches.{Sketch}
use Rattle.ap_fst.specs.Walks.{AcceptsLabels}
use Rattle.ap_fst.specs.declared.label.Label.{Label}
use Rattle.ap_fst.proofs.Withouts.{without_is_sketch, without_law}
use Rattle.ap_fst.proofs.draft.Draft.without_right.Goals as goal

pub invariant_of-result : goal.invariant_of-result
invariant_of-result c =
    let a : Sketch = record {
      states = c.states.inside.states;
      start = c.states.inside.start;
      finish =
          c.states.inside.end;
      moves = c.states.inside.moves.items;
    } in
    without_is_sketch c.args.tag.now a c.in_ok-moves.moves.items c.states.invariant
    c.in_ok-moves.ensures

pub returns : goal.returns
returns c =
    let a : Sketch = record {
      states = c.states.inside.states;
      start = c.states.inside.start;
      finish =
          c.states.inside.end;
      moves = c.states.inside.moves.items;
    } in
    without_law c.args.tag.now c.args.fst.now a c.in_ok-moves.moves.items
    (subst (λ (z : Sketch). (labels : List Label) → Accepts z labels
    ↔ AcceptsLabels c.args.fst.now labels) (sym c.states.view_is) c.in_ok-states.ensures)
    c.in_ok-moves.ensures
