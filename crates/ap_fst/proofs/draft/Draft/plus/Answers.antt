use Rattle.std.proofs.Common.{◌≡◌, ◌+◌, refl, subst, sym, ℕ, arith}
use Rattle.ap_fst.specs.Sketches.{Sketch, IsSketch}
use Rattle.ap_fst.proofs.Stars.{plus_is_sketch, plus_law, three_pushed}
use Rattle.ap_fst.proofs.draft.Draft.plus.Goals as goal

pub invariant_of-result : goal.invariant_of-result
invariant_of-result c =
    let a : Sketch = record {
      states = c.self.inside.states;
      start = c.self.inside.start;
      finish =
          c.self.inside.end;
      moves = c.self.inside.moves.items;
    } in
    let all : c.in-Some.all ≡ c.self.inside.states + 2 = omega (arith, c.in-Some.ensures) in
    subst (λ (n : ℕ). IsSketch
    (record {
      states = n;
      start = c.self.inside.states;
      finish = c.self.inside.states + 1;
      moves = c.push_empty-3.new.moves.items;
    })) (sym all)
    (plus_is_sketch a c.push_empty-3.new.moves.items c.self.invariant
    (three_pushed a c.self.inside.moves.items c.push_empty.new.moves.items
    c.push_empty-2.new.moves.items c.push_empty-3.new.moves.items refl
    c.in_ok-push_empty.ensures c.in_ok-push_empty-2.ensures c.in_ok-push_empty-3.ensures))

pub returns : goal.returns
returns c =
    let a : Sketch = record {
      states = c.self.inside.states;
      start = c.self.inside.start;
      finish =
          c.self.inside.end;
      moves = c.self.inside.moves.items;
    } in
    plus_law a c.args.self c.push_empty-3.new.moves.items c.self.invariant
    (three_pushed a c.self.inside.moves.items c.push_empty.new.moves.items
    c.push_empty-2.new.moves.items c.push_empty-3.new.moves.items refl
    c.in_ok-push_empty.ensures c.in_ok-push_empty-2.ensures c.in_ok-push_empty-3.ensures)
    c.self.view_is
