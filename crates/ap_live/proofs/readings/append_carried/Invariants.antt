use Rattle.std.proofs.Common.{◌≡◌, ◌++◌, map}
use Rattle.std.specs.Vec.Iter.{into_iter_items}
use Rattle.ap_symbol.specs.Recasing.{carry_lem}
use Rattle.ap_live.proofs.readings.append_carried.Given as goal

abbrev pub invariant-loop-word : goal.invariant-loop-word
invariant-loop-word l = record {
  is : l.into.items ≡ l.fn.into.items ++ map (carry_lem l.case) l.yielded;
  rest : l.fn.words.items ≡ l.yielded ++ into_iter_items l.word-iterator;
}
