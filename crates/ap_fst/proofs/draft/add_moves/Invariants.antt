use Rattle.std.proofs.Common.{◌≡◌, ◌++◌, map}
use Rattle.std.specs.Vec.Iter.{into_iter_items}
use Rattle.ap_fst.specs.Places.{moved}
use Rattle.ap_fst.proofs.draft.add_moves.Given as goal

abbrev pub invariant-loop-next : goal.invariant-loop-next
invariant-loop-next l = record {
  so_far : l.moves.items ≡ l.initial.moves.items ++ map (moved l.place) l.yielded;
  rest : l.fn.more.items ≡ l.yielded ++ into_iter_items l.next-iterator;
}
