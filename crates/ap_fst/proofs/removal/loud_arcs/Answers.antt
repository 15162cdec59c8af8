use Rattle.ap_fst.proofs.Removals.{loud_sorted}
use Rattle.ap_fst.proofs.removal.loud_arcs.Goals as goal

pub returns-clause-loud : goal.returns-clause-loud
returns-clause-loud c = loud_sorted c.args.moves.now c.in_ok-arcs.arcs.items
    c.sort_arcs.new.arcs.items c.sort_arcs.ensures.permutation c.in_ok-arcs.ensures
