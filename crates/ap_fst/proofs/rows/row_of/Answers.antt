use Rattle.std.proofs.Common.{subst, sym, List, ℕ}
use Rattle.std.specs.List.Sorted.{IsPermutation}
use Rattle.ap_fst.proofs.RowLaws.{row_pruned}
use Rattle.ap_fst.proofs.rows.row_of.Goals as goal

pub returns : goal.returns
returns c = row_pruned c.args.moves.now c.args.arcs.now.finish c.args.state
    c.in_ok-places.places.items c.as_slice.result.now c.in_ok-row.row.items
    (subst (λ (z : List ℕ). IsPermutation c.in_ok-places.places.items z)
    (sym c.as_slice.ensures.value) c.sort_places.ensures) c.in_ok-row.ensures.only
    c.in_ok-row.ensures.all c.in_ok-places.ensures
