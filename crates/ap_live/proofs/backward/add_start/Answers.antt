use Rattle.std.proofs.Common.{sym, ◌≡◌, subst, ℕ, ◌⊎◌}
use Rattle.std.specs.Prelude.{◌↔◌}
use Rattle.ap_fst.specs.Lists.{IsIn}
use Rattle.ap_live.specs.declared.items.Item.{Item}
use Rattle.ap_live.proofs.TailLaws.{start_there}
use Rattle.ap_live.proofs.backward.add_start.Goals as goal

pub returns : goal.returns
returns c = λ back.
    let P : ℕ → Type 0 = λ s. IsIn back c.push.new.self.items
    ↔ (IsIn back c.args.backs.now.items
    ⊎ ((let a : Item = record { state = 0; back = back } in a)
    ≡ (let b : Item = record { state = s; back = c.args.item.back } in b))) in
    subst P (sym c.if-state-ne0.false)
    (start_there c.args.backs.now.items c.push.new.self.items c.args.item.back
    c.in_ok-push.ensures.items back)
