use Rattle.std.proofs.Common.{◌∙◌, subst, sym}
use Rattle.ap_fst.specs.Lists.{IsIn}
use Rattle.ap_fst.proofs.Listing.{in_at}
use Rattle.ap_live.specs.declared.items.Item.{Item}
use Rattle.ap_live.proofs.items.is_listed.Goals as goal

pub returns-then-is_same : goal.returns-then-is_same
returns-then-is_same c =
    λ same. subst (λ (z : Item). IsIn z c.args.items.now)
    (sym c.other-item.is ∙ c.if-is_same.ensures same)
    (in_at c.args.items.now c.loop-other.other-index c.other-item.result c.loop-other-test.true)
