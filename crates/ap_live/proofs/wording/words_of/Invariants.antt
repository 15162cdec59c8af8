use Rattle.std.proofs.Common.{◌≡◌, ◌++◌, List, map}
use Rattle.std.specs.Prelude.{reverse}
use Rattle.std.specs.Vec.Iter.{into_iter_items}
use Rattle.ap_symbol.specs.Words.{AreProper}
use Rattle.ap_symbol.specs.declared.symbol.Symbol.{Symbol}
use Rattle.ap_fst.specs.Lists.{IsIn}
use Rattle.ap_live.proofs.wording.words_of.Given as goal

abbrev pub invariant-loop-back : goal.invariant-loop-back
invariant-loop-back l = record {
  so_far : l.words.items ≡ map reverse l.yielded;
  proper : (w : List Symbol) → IsIn w l.words.items → AreProper w;
  rest : l.fn.backs.items ≡ l.yielded ++ into_iter_items l.back-iterator;
}
