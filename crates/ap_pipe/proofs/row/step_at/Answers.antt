use Rattle.std.proofs.Common.{true}
use Rattle.ap_pipe.proofs.Rows as rows
use Rattle.ap_pipe.proofs.Moving as moving
use Rattle.ap_pipe.proofs.row.step_at.Goals as goal

pub turn_at-requires-clause-sound : goal.turn_at-requires-clause-sound
turn_at-requires-clause-sound g c =
    (moving.ran_move g.S.Stage g.met.S.Stage.rest_is c.args.closed _ _ _ _
    c.requires.place c.requires.sound c.move_at.ensures).sound

pub returns-in_err-turn_at-clause-holds : goal.returns-in_err-turn_at-clause-holds
returns-in_err-turn_at-clause-holds g c =
    λ room all. c.turn_at.ensures.holds room
    (moving.holds_on g.S.Stage g.met.S.Stage.rest_is room _ _ _ _
    c.requires.place c.move_at.ensures all)

pub returns-in_err-turn_at-2-clause-holds : goal.returns-in_err-turn_at-2-clause-holds
returns-in_err-turn_at-2-clause-holds g c =
    λ room all. c.turn_at-2.ensures.holds room (c.turn_at.ensures.holds room
    (moving.holds_on g.S.Stage g.met.S.Stage.rest_is room _ _ _ _
    c.requires.place c.move_at.ensures all))

pub returns-clause-ran : goal.returns-clause-ran
returns-clause-ran g c =
    rows.ran_on g.S.Stage g.met.S.Stage.rest_is c.args.closed _ _ _ true _
    (rows.ran_on g.S.Stage g.met.S.Stage.rest_is c.args.closed _ _ _ true _
    (moving.ran_move g.S.Stage g.met.S.Stage.rest_is c.args.closed _ _ _ true
    c.requires.place c.requires.sound c.if-not-move_at.ensures) c.in_ok-turn_at.ensures.ran)
    c.in_ok-turn_at-2.ensures.ran

pub returns-clause-holds : goal.returns-clause-holds
returns-clause-holds g c =
    λ room all. c.turn_at-2.ensures.holds room (c.turn_at.ensures.holds room
    (moving.holds_on g.S.Stage g.met.S.Stage.rest_is room _ _ _ _
    c.requires.place c.move_at.ensures all))
