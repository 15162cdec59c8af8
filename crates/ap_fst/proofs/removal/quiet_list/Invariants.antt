use Rattle.std.proofs.Common.{take, map, ◌≡◌}
use Rattle.std.specs.List.{filter}
use Rattle.ap_fst.specs.Removal.{is_quiet, move_arc}
use Rattle.ap_fst.proofs.removal.quiet_list.Given as goal

abbrev pub invariant-loop-next : goal.invariant-loop-next
invariant-loop-next l = l.arcs.items ≡ map move_arc (filter is_quiet (take l.next-index l.moves))
