use Rattle.std.proofs.Common.{sym, rules}
use Rattle.ap_fst.proofs.RowLaws.{like_by_leads}
use Rattle.ap_fst.proofs.rows.is_like.Goals as goal

pub returns : goal.returns
returns c = λ t. like_by_leads c.args.moves.now c.args.arcs.now.finish c.args.p c.args.q
    c.in-Some-number_at.lead c.in-Some-number_at-2.other c.args.leads.now c.in-Some.first.now
    c.in-Some-move_at.second.now (sym c.in-Some.ensures) (sym c.in-Some-move_at.ensures)
    (c.has_label_of.ensures (search rules)) (sym c.in-Some-number_at.ensures)
    (sym c.in-Some-number_at-2.ensures) c.requires.leads
    (c.covers.ensures c.args.moves.now c.requires.arcs t)
