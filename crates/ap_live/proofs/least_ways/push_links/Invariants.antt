use Rattle.std.proofs.Common.{take, ◌∷◌, []}
use Rattle.ap_live.specs.Tails.{AddsBack}
use Rattle.ap_live.proofs.least_ways.push_links.Given as goal

abbrev pub invariant-loop-link : goal.invariant-loop-link
invariant-loop-link l = AddsBack l.fst.edges l.silent (take l.link-index l.links) (l.item ∷ [])
    l.initial.found.items l.found.items
