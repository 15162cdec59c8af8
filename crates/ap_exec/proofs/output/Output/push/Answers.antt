use Rattle.std.proofs.Common.{sym, ◌∙◌}
use Rattle.ap_exec.proofs.SizeLaws.{room_left}
use Rattle.ap_exec.proofs.output.Output.push.Goals as goal

pub invariant_of-self-in-Some : goal.invariant_of-self-in-Some
invariant_of-self-in-Some c =
    room_left c.self.inside.room c.in-Some.left c.self.inside.pieces c.push.new.self c.args.piece
    c.self.invariant (sym c.less_piece.ensures ∙ c.in-Some.is) c.in_ok-push-in-Some.ensures.ok
