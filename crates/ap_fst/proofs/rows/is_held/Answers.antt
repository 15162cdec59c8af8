use Rattle.std.proofs.Common.{arith}
use Rattle.ap_fst.proofs.RowLaws.{like_before}
use Rattle.ap_fst.proofs.rows.is_held.Goals as goal

pub returns : goal.returns
returns c = λ t. like_before c.args.moves.now c.args.arcs.now.finish c.args.places.now c.args.at
    c.in-Some.before c.in-Some-number_at.place (omega arith) c.in-Some.ensures
    c.in-Some-number_at.ensures (c.is_like.ensures t)
