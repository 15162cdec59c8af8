use Rattle.std.proofs.Common.{arith}
use Rattle.ap_min.proofs.Settled.{open_at, home_more, home_all}
use Rattle.ap_min.proofs.settling.is_open.Goals as goal

pub returns-then-groups-arc-eq0-clause-open : goal.returns-then-groups-arc-eq0-clause-open
returns-then-groups-arc-eq0-clause-open c = λ t. open_at c.args.groups.now
    c.deref-arc-items.result.now c.args.row.now.arcs.items c.loop-arc.arc-index
    (record { label = 0; to = 0 }) c.deref-arc-items.ensures.value c.loop-arc-test.true
    c.if-groups-arc-eq0.true

pub loop-arc-preserved : goal.loop-arc-preserved
loop-arc-preserved c = home_more c.args.groups.now c.deref-arc-items.result.now
    c.args.row.now.arcs.items c.loop-arc.arc-index (record { label = 0; to = 0 })
    c.deref-arc-items.ensures.value c.loop-arc-test.true (omega (arith, c.if-groups-arc-eq0.false))
    c.loop-arc.invariant

pub returns-clause-home : goal.returns-clause-home
returns-clause-home c = λ t. home_all c.args.groups.now c.deref-arc-items.result.now
    c.args.row.now.arcs.items c.loop-arc.arc-index c.deref-arc-items.ensures.value
    c.loop-arc-test.false c.loop-arc.invariant
