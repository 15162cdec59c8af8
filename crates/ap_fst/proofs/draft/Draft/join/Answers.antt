use Rattle.std.proofs.Common.{arith, ◌^◌}
use Rattle.ap_fst.proofs.Laws.{shifts, join_law, join_is_sketch}
use Rattle.ap_fst.proofs.draft.Draft.join.Goals as goal

pub add_moves-requires : goal.add_moves-requires
add_moves-requires c = shifts c.other.inside.states c.self.inside.states (2 ^ 64)
    c.other.inside.start c.other.inside.end c.other.inside.moves.items c.other.invariant.each
    (omega (arith, c.in-Some.ensures))

pub invariant_of-result : goal.invariant_of-result
invariant_of-result c =
    join_is_sketch (record {
      states = c.self.inside.states;
      start = c.self.inside.start;
      finish =
          c.self.inside.end;
      moves = c.self.inside.moves.items;
    })
    (record {
      states = c.other.inside.states;
      start = c.other.inside.start;
      finish =
          c.other.inside.end;
      moves = c.other.inside.moves.items;
    }) c.in-Some.all
    c.add_moves.new.moves.items
    c.self.invariant c.other.invariant (omega (arith, c.in-Some.ensures))
    c.in_ok-add_moves.ensures.ok

pub returns : goal.returns
returns c =
    join_law (record {
      states = c.self.inside.states;
      start = c.self.inside.start;
      finish =
          c.self.inside.end;
      moves = c.self.inside.moves.items;
    })
    (record {
      states = c.other.inside.states;
      start = c.other.inside.start;
      finish =
          c.other.inside.end;
      moves = c.other.inside.moves.items;
    }) c.args.self c.args.other
    c.add_moves.new.moves.items
    c.self.invariant c.other.invariant c.in_ok-add_moves.ensures.ok c.self.view_is c.other.view_is
