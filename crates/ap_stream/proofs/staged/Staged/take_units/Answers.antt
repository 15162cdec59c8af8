use Rattle.std.proofs.Common.{arith, ◌≡◌}
use Rattle.ap_stream.proofs.Copied.{cause_from, front_from}
use Rattle.ap_stream.proofs.staged.Staged.take_units.Goals as goal

pub returns-clause-cause : goal.returns-clause-cause
returns-clause-cause g c =
    let zero : c.in-Ok.used ≡ 0 = omega arith in
    let rest = rw zero at c.in-Ok.ensures.rest in
    cause_from _ g.H.Handler.work c.args.self.now c.go_over.new.self c.args.piece.now _
    c.in-Ok.ensures.free.going rest c.take-2.ensures.cause

pub returns-clause-front : goal.returns-clause-front
returns-clause-front g c =
    let zero : c.in-Ok.used ≡ 0 = omega arith in
    let rest = rw zero at c.in-Ok.ensures.rest in
    front_from _ g.H.Handler.work c.args.self.now c.go_over.new.self c.args.piece.now _
    c.in-Ok.ensures.free.going rest c.take-2.ensures.front
