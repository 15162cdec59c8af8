use Rattle.std.proofs.Common.{arith, below_more, refl, ◌≡◌, ◌<◌, List, length, get_or}
use Rattle.ap_min.specs.declared.rows.Arc.{Arc}
use Rattle.ap_min.specs.Settled.{IsOpen}
use Rattle.ap_min.proofs.Settled.{row_arcs}
use Rattle.ap_min.proofs.settling.is_full.Goals as goal

pub loop-state-preserved : goal.loop-state-preserved
loop-state-preserved c =
    let in-s : c.loop-state.state < length c.args.rows.now = omega arith in
    below_more _ _ c.loop-state.invariant
    (row_arcs (λ (xs : List Arc). get_or c.args.groups.now c.loop-state.state 0 ≡ 0 →
    IsOpen c.args.groups.now xs) c.args.rows.now c.loop-state.state c.index-rows-state.result
    in-s c.index-rows-state.is (c.if-not-stays_open.ensures refl))
