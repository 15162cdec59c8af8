use Rattle.std.proofs.Common.{map, take}
use Rattle.ap_live.specs.Outlines.{IsOutline}
use Rattle.ap_live.specs.Rows.{AreLiveRows}
use Rattle.ap_live.specs.Trails.{input_of}
use Rattle.ap_live.proofs.live_rows.LiveRows.along.Given as goal

abbrev pub invariant-loop-taken : goal.invariant-loop-taken
invariant-loop-taken l = IsOutline l.fst.edges l.outline →
    AreLiveRows l.fst (map input_of (take l.taken-index l.inputs)) l.rows
