use Rattle.std.proofs.Common.{take}
use Rattle.ap_fst.specs.Lists.{IsIn}
use Rattle.ap_fst.specs.declared.label.Edge.{Edge}
use Rattle.ap_live.specs.Readable.{IsCodedSide}
use Rattle.ap_live.proofs.readable.sides_are_coded.Given as goal

abbrev pub invariant-loop-edge : goal.invariant-loop-edge
invariant-loop-edge l = (e : Edge) → IsIn e (take l.edge-index l.edges) → IsCodedSide e.label.right
