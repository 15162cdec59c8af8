use Rattle.std.proofs.Common.{take}
use Rattle.ap_fst.specs.Lists.{IsIn}
use Rattle.ap_live.specs.Least.{IsMatched}
use Rattle.ap_live.specs.declared.items.Item.{Item}
use Rattle.ap_live.proofs.least_ways.are_matched.Given as goal

abbrev pub invariant-loop-other : goal.invariant-loop-other
invariant-loop-other l = (x : Item) → IsIn x (take l.other-index l.others) →
    IsMatched l.case l.items x
