use Rattle.std.proofs.Common.{arith, ap, Ok}
use Rattle.ap_pipe.proofs.Turns as turns
use Rattle.ap_pipe.proofs.turn.go_on_alone.Goals as goal

pub returns-in_default-clause-rest : goal.returns-in_default-clause-rest
returns-in_default-clause-rest g c =
    let h = c.in-Err.ensures.cause c.in_default.not-Memory c.requires.going in
    turns.alone_fault g.S.Stage g.met.S.Stage.rest_is _ c.args.station.now _
    h.0 _ h.1 h.2 c.in-Err.ensures.fault

pub returns-in_default-clause-order : goal.returns-in_default-clause-order
returns-in_default-clause-order g c =
    turns.alone_fault_order g.S.Stage g.met.S.Stage.rest_is _
    c.args.station.now c.args.station.now.state _ c.requires.going c.requires.reading
    c.requires.none c.in-Err.ensures.fault

pub returns-in-Ok-clause-rest : goal.returns-in-Ok-clause-rest
returns-in-Ok-clause-rest g c =
    turns.alone_same g.S.Stage g.met.S.Stage.rest_is _ c.args.station.now _
    _ c.in-Ok.ensures.count c.in-Ok.ensures.rest

pub returns-in-Ok-clause-order : goal.returns-in-Ok-clause-order
returns-in-Ok-clause-order g c =
    let h = c.in-Ok.ensures in
    turns.alone_order g.S.Stage g.met.S.Stage.rest_is _ c.args.station.now
    c.args.station.now.state _ c.requires.going c.requires.waits c.requires.reading h.no_fault
    h.open c.pending.ensures.count (omega (arith, h.held, h.count))
    (h.rank (ap Ok (omega (arith, h.count))))
