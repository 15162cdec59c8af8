use Rattle.std.proofs.Common.{◌<◌, All, get_or, take}
use Rattle.ap_min.proofs.settling.is_open.Given as goal

abbrev pub invariant-loop-arc : goal.invariant-loop-arc
invariant-loop-arc l = All (λ arc. 0 < get_or l.groups arc.to 0) (take l.arc-index l.row.arcs.items)
