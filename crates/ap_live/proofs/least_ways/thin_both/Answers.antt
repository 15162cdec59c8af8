use Rattle.std.proofs.Common.{List, inl, inr, subst}
use Rattle.ap_fst.specs.Lists.{IsIn}
use Rattle.ap_live.specs.declared.items.Item.{Item}
use Rattle.ap_live.proofs.Spreading.{in_either}
use Rattle.ap_live.proofs.least_ways.thin_both.Goals as goal

pub thin-requires : goal.thin-requires
thin-requires c = λ x i. elim (in_either x c.args.items.items c.args.others.items
    (subst (λ (z : List Item). IsIn x z) c.in_ok-append.ensures.items i)) [
      | inl k ↦ c.requires.items x k
      | inr k ↦ c.requires.others x k
    ]
