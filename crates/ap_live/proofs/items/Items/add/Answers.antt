use Rattle.std.proofs.Common.{◌∙◌, ap, ◌∷◌, [], ◌++◌, List}
use Rattle.ap_live.specs.declared.items.Item.{Item}
use Rattle.ap_live.proofs.Backing.{merges_new, merges_known}
use Rattle.ap_live.proofs.items.Items.add.Goals as goal

pub returns-then-holds : goal.returns-then-holds
returns-then-holds c = merges_known c.args.self.now c.args.item (c.holds.ensures c.if-holds.true)

pub returns : goal.returns
returns c =
    merges_new c.args.self.now c.push-2.new.self.items c.args.item (c.in_ok-push-2.ensures.items
    ∙ ap (λ (z : List Item). z ++ c.args.item ∷ []) c.self.view_is)
