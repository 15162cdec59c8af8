use Rattle.std.proofs.Common.{◌≡◌, ◌++◌, map}
use Rattle.std.specs.Vec.Iter.{into_iter_items}
use Rattle.ap_fst.specs.Without.{move_without}
use Rattle.ap_fst.proofs.without_right.moves_without.Given as goal

abbrev pub invariant-loop-next : goal.invariant-loop-next
invariant-loop-next l = record {
  so_far : l.made.items ≡ map (move_without l.tag) l.yielded;
  rest : l.fn.moves.items ≡ l.yielded ++ into_iter_items l.next-iterator;
}
