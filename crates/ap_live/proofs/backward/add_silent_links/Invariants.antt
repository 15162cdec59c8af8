use Rattle.std.proofs.Common.{◌≡◌, take, ◌∷◌, [], true, Some, slice_get}
use Rattle.ap_live.specs.Tails.{AddsBack}
use Rattle.ap_live.specs.declared.items.Item.{Item}
use Rattle.ap_live.proofs.backward.add_silent_links.Given as goal

abbrev pub invariant-loop-link : goal.invariant-loop-link
invariant-loop-link l = (item : Item) → slice_get l.initial.items l.at ≡ Some item →
    AddsBack l.fst.edges true (take l.link-index l.links) (item ∷ []) l.initial.items l.items
