use Rattle.ap_fst.specs.Sketches.{Sketch}
use Rattle.ap_fst.proofs.Stars.{opt_is_sketch, opt_law}
use Rattle.ap_fst.proofs.draft.Draft.opt.Goals as goal

pub invariant_of-result : goal.invariant_of-result
invariant_of-result c =
    let a : Sketch = record {
      states = c.self.inside.states;
      start = c.self.inside.start;
      finish =
          c.self.inside.end;
      moves = c.self.inside.moves.items;
    } in
    opt_is_sketch a c.push_empty.new.moves.items c.self.invariant c.in_ok-push_empty.ensures

pub returns : goal.returns
returns c =
    let a : Sketch = record {
      states = c.self.inside.states;
      start = c.self.inside.start;
      finish =
          c.self.inside.end;
      moves = c.self.inside.moves.items;
    } in
    opt_law a c.args.self c.push_empty.new.moves.items c.self.invariant c.in_ok-push_empty.ensures
    c.self.view_is
