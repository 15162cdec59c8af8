use Rattle.std.proofs.Common.{◌<◌, List, length, take, drop}
use Rattle.std.specs.Prelude.{IsTrue}
use Rattle.std.specs.List.{list_all}
use Rattle.ap_symbol.specs.Words.{is_word_symbol}
use Rattle.ap_fst.specs.Lists.{IsIn}
use Rattle.ap_live.specs.Fitting.{Input}
use Rattle.ap_live.specs.Least.{AreLeast}
use Rattle.ap_live.specs.Rows.{AreRows}
use Rattle.ap_live.specs.declared.items.Item.{Item}
use Rattle.ap_live.proofs.least_ways.least_back.Given as goal

abbrev pub invariant-loop-at : goal.invariant-loop-at
invariant-loop-at l = record {
  in_range : l.at < length l.rows;
  items : (seen : List Input) → AreRows l.fst.edges seen l.rows →
      AreLeast l.fst l.case (take l.at seen) (drop l.at seen) l.items.items;
  clean : (x : Item) → IsIn x l.items.items → IsTrue (list_all is_word_symbol x.back);
}

abbrev pub decreases-loop-at : goal.decreases-loop-at
decreases-loop-at l = l.at
