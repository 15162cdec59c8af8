use Rattle.std.proofs.Common.{[], take}
use Rattle.ap_live.specs.Tails.{AddsBack}
use Rattle.ap_live.proofs.least_ways.all_before.Given as goal

abbrev pub invariant-loop-item : goal.invariant-loop-item
invariant-loop-item l = AddsBack l.fst.edges l.silent l.links (take l.item-index l.items) []
    l.found.items
