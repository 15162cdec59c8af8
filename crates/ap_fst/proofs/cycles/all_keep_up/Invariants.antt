use Rattle.std.proofs.Common.{take, ◌≡◌, true, nat_eq}
use Rattle.ap_fst.specs.Lists.{IsIn}
use Rattle.indexmap.specs.IndexMap.{get}
use Rattle.ap_fst.specs.Silence.{is_silent, KeepsUp}
use Rattle.ap_fst.specs.declared.label.Edge.{Edge}
use Rattle.ap_fst.proofs.cycles.all_keep_up.Given as goal

abbrev pub invariant-loop-edge : goal.invariant-loop-edge
invariant-loop-edge l = (e : Edge) → IsIn e (take l.edge-index l.edges) → is_silent e ≡ true →
    KeepsUp (get nat_eq l.numbers) e
