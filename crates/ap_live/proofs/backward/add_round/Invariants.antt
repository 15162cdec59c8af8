use Rattle.std.proofs.Common.{take, drop, ◌-◌, true}
use Rattle.ap_live.specs.Tails.{AddsBack}
use Rattle.ap_live.proofs.backward.add_round.Given as goal

abbrev pub invariant-loop-at : goal.invariant-loop-at
invariant-loop-at l = AddsBack l.fst.edges true l.links
    (take (l.at - l.from) (drop l.from l.initial.items)) l.initial.items l.items
