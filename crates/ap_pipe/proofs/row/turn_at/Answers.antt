use Rattle.ap_pipe.proofs.Rows as rows
use Rattle.ap_pipe.proofs.row.turn_at.Goals as goal

pub turn-requires : goal.turn-requires
turn-requires g c =
    rw c.is_closed_at-shut.ensures
    (rows.sound_at g.S.Stage g.met.S.Stage.rest_is c.args.closed
    c.args.stations.now c.args.at _ c.requires.place c.requires.sound)

pub returns-in-Ok-clause-ran : goal.returns-in-Ok-clause-ran
returns-in-Ok-clause-ran g c =
    let h = c.in-Ok.ensures in
    rows.ran_turn g.S.Stage g.met.S.Stage.rest_is c.args.closed
    c.args.stations.now c.args.at _ _ _ c.requires.place c.requires.sound
    (rw c.is_closed_at-shut.ensures at h.sound) (rw c.is_closed_at-shut.ensures at h.rest)
    h.ranking h.closes

pub returns-in-Ok-clause-holds : goal.returns-in-Ok-clause-holds
returns-in-Ok-clause-holds g c =
    λ room all. rows.set_holds g.S.Stage g.met.S.Stage.rest_is _ _ _ _ room
    (c.turn.ensures.holds room) all

pub returns-in-Err-clause-holds : goal.returns-in-Err-clause-holds
returns-in-Err-clause-holds g c =
    λ room all. rows.set_holds g.S.Stage g.met.S.Stage.rest_is _ _ _ _ room
    (c.turn.ensures.holds room) all
