use Rattle.std.proofs.Common.{◌-◌, ◌^◌}
use Rattle.ap_fst.proofs.components.spread_number.Given as goal

abbrev pub decreases-loop-member : goal.decreases-loop-member
decreases-loop-member l = 2 ^ 64 - l.at
