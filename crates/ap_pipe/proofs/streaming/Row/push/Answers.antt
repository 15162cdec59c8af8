use Rattle.ap_pipe.specs.declared.TheConstants.{STAGES_MAX}
use Rattle.ap_pipe.proofs.Seating.{row_more}
use Rattle.ap_pipe.proofs.streaming.Row.push.Goals as goal

pub invariant_of-self-2 : goal.invariant_of-self-2
invariant_of-self-2 g c =
    row_more g.S.Stage STAGES_MAX c.self.inside.stages.items c.push.new.self.items c.args.stage
    c.in_ok-push.ensures.items (rw (c.self.view_is) c.requires.few) c.self.invariant.0
    (record { going = c.requires.going; open_ = c.requires.open })
