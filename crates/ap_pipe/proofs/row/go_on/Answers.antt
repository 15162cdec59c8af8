use Rattle.std.proofs.Common.{true, false}
use Rattle.ap_pipe.proofs.Rows as rows
use Rattle.ap_pipe.proofs.row.go_on.Goals as goal

pub returns-in_err-flowed-clause-holds : goal.returns-in_err-flowed-clause-holds
returns-in_err-flowed-clause-holds g c =
    λ room all. c.flows.ensures.holds room (c.turns.ensures.holds room all)

pub returns-then-turned-clause-ran : goal.returns-then-turned-clause-ran
returns-then-turned-clause-ran g c =
    let h = c.in_ok-turned.ensures in
    rw c.if-turned.true
    (rows.ran_on g.S.Stage g.met.S.Stage.rest_is c.args.closed
    c.args.stations.now c.turns.new.stations c.flows.new.stations true c.in_ok-flowed.flowed
    (record { sound = h.sound; same = h.rest; order = rw c.if-turned.true at h.ranking })
    c.in_ok-flowed.ensures.ran)

pub returns-else-turned-clause-ran : goal.returns-else-turned-clause-ran
returns-else-turned-clause-ran g c =
    let h = c.in_ok-turned.ensures in
    rows.ran_on g.S.Stage g.met.S.Stage.rest_is c.args.closed
    c.args.stations.now c.turns.new.stations c.flows.new.stations false c.in_ok-flowed.flowed
    (record { sound = h.sound; same = h.rest; order = rw c.if-turned.false at h.ranking })
    c.in_ok-flowed.ensures.ran

pub returns-then-turned-clause-holds : goal.returns-then-turned-clause-holds
returns-then-turned-clause-holds g c =
    λ room all. c.flows.ensures.holds room (c.turns.ensures.holds room all)

pub returns-else-turned-clause-holds : goal.returns-else-turned-clause-holds
returns-else-turned-clause-holds g c =
    λ room all. c.flows.ensures.holds room (c.turns.ensures.holds room all)
