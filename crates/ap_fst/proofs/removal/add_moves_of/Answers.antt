use Rattle.std.proofs.Common.{arith}
use Rattle.std.proofs.lemmas.Option.{slice_get-get_or}
use Rattle.ap_fst.proofs.Adding.{adds_next}
use Rattle.ap_fst.proofs.Removals.{MovedAt, moved_at, moved_by}
use Rattle.ap_fst.proofs.removal.add_moves_of.Goals as goal

pub loop-place-preserved : goal.loop-place-preserved
loop-place-preserved c = adds_next
    (MovedAt c.args.moves.now c.args.leads.now c.args.kept.now c.args.number c.args.row.now)
    c.loop-place.place-index c.args.edges.now.items c.loop-place.edges.items
    c.add_move.new.edges.items c.loop-place.invariant
    (moved_at c.args.moves.now c.args.leads.now c.args.kept.now c.args.number c.args.row.now
    c.loop-place.place-index _ c.loop-place.edges.items c.add_move.new.edges.items
    (slice_get-get_or c.args.row.now c.loop-place.place-index _ c.loop-place-test.true)
    c.in_ok-add_move.ensures)

pub returns : goal.returns
returns c = moved_by c.args.moves.now c.args.leads.now c.args.kept.now c.args.number c.args.row.now
    c.loop-place.place-index c.args.edges.now.items c.loop-place.edges.items (omega arith)
    c.loop-place.invariant
