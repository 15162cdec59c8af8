use Rattle.std.proofs.Common.{◌≡◌, ◌<◌, [], List, length, take, drop}
use Rattle.ap_live.specs.Fitting.{Input}
use Rattle.ap_live.specs.Rows.{AreRows}
use Rattle.ap_fst.specs.Lists.{IsIn}
use Rattle.ap_live.specs.Tails.{AreItems}
use Rattle.ap_live.specs.declared.items.Item.{Item}
use Rattle.ap_live.proofs.Backing.{IsClean}
use Rattle.ap_live.proofs.backward.outputs_back.Given as goal

abbrev pub invariant-loop-at : goal.invariant-loop-at
invariant-loop-at l = record {
  in_range : l.at < length l.rows;
  items : (seen : List Input) → AreRows l.fst.edges seen l.rows →
      AreItems l.fst (take l.at seen) (drop l.at seen) l.items;
  empty : l.found ≡ [];
  clean : (x : Item) → IsIn x l.items → IsClean x;
}

abbrev pub decreases-loop-at : goal.decreases-loop-at
decreases-loop-at l = l.at
