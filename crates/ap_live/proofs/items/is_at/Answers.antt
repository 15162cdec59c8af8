use Rattle.std.proofs.Common.{◌∙◌, subst, sym}
use Rattle.ap_fst.specs.Lists.{IsIn}
use Rattle.ap_fst.proofs.Listing.{in_at}
use Rattle.ap_live.specs.declared.items.Item.{Item}
use Rattle.ap_live.proofs.items.is_at.Goals as goal

pub returns-in-Some : goal.returns-in-Some
returns-in-Some c = λ same.
    let there = c.in-Some.ensures.lookup in
    subst (λ (z : Item). IsIn z c.args.items.now) (sym there.1 ∙ c.is_same.ensures same)
    (in_at c.args.items.now c.args.at c.in-Some.other.now there.3.0)
