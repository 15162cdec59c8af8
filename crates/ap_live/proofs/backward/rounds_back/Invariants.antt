use Rattle.std.proofs.Common.{◌-◌, ◌≤◌, true, length, take, drop}
use Rattle.ap_fst.specs.Lists.{IsIn}
use Rattle.ap_live.specs.Tails.{BackMany, BackFrom}
use Rattle.ap_live.proofs.Backing.{Stands}
use Rattle.ap_live.specs.declared.items.Item.{Item}
use Rattle.ap_live.proofs.backward.rounds_back.Given as goal

abbrev pub invariant-rounds : goal.invariant-rounds
invariant-rounds l = record {
  within : l.from ≤ length l.items;
  sound : (x : Item) → IsIn x l.items → BackMany l.fst.edges l.links l.initial.items x;
  base_in : (x : Item) → IsIn x l.initial.items → IsIn x l.items;
  closed : (x : Item) → BackFrom l.fst.edges true l.links (take l.from l.items) x → IsIn x l.items;
  stands : (x : Item) → IsIn x (drop l.from l.items) → Stands l.fst l.round x;
  bounded : l.round ≤ l.fst.states;
}

abbrev pub decreases-rounds : goal.decreases-rounds
decreases-rounds l = l.fst.states - l.round
