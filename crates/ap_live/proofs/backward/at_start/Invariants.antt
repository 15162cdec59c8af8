use Rattle.std.proofs.Common.{◌≡◌, ◌++◌, List}
use Rattle.std.specs.Prelude.{◌↔◌}
use Rattle.std.specs.Vec.Iter.{into_iter_items}
use Rattle.ap_fst.specs.Lists.{IsIn}
use Rattle.ap_symbol.specs.declared.symbol.Symbol.{Symbol}
use Rattle.ap_live.specs.declared.items.Item.{Item}
use Rattle.ap_live.proofs.backward.at_start.Given as goal

abbrev pub invariant-loop-item : goal.invariant-loop-item
invariant-loop-item l = record {
  found : (back : List Symbol) →
      IsIn back l.backs.items ↔ IsIn (let item : Item = record { state = 0; back = back } in
      item) l.yielded;
  rest : l.fn.items.items ≡ l.yielded ++ into_iter_items l.item-iterator;
}
