use Rattle.std.proofs.Common.{sym}
use Rattle.ap_fst.proofs.Removals.{moved_one}
use Rattle.ap_fst.proofs.removal.add_move.Goals as goal

pub returns : goal.returns
returns c = moved_one c.args.moves.now c.args.leads.now c.args.kept.now c.args.number c.args.place
    c.in-Some.next.now c.in-Some-label.label c.in_ok-copy.field-0 c.in-Some-number_at.lead
    c.in-Some-place.to c.args.edges.now.items c.push.new.self.items (sym c.in-Some.ensures)
    (sym c.in-Some-number_at.ensures) c.in-Some-label.is c.in_ok-copy.ensures
    (sym c.in-Some-place.ensures) c.in_ok-push.ensures.items
