use Rattle.std.proofs.Common.{◌∙◌, sym, subst, List, ℕ, nat_eq}
use Rattle.indexmap.specs.IndexMap.{get}
use Rattle.ap_fst.specs.Removal.{AddsWhere}
use Rattle.ap_fst.specs.Exits.{IsMovedBy}
use Rattle.ap_fst.proofs.Growing.{none_from_not}
use Rattle.ap_fst.proofs.Removals.{adds_edges, adds_no_edges, rows_kept}
use Rattle.ap_fst.proofs.removal.add_number.Goals as goal

pub returns-in_default-clause-edges : goal.returns-in_default-clause-edges
returns-in_default-clause-edges c = adds_no_edges c.args.moves.now c.args.arcs.now.finish
    c.args.leads.now c.args.kept.now c.args.number c.args.edges.now.items
    (none_from_not c.get.result c.in_default.not-Some ∙ c.get.ensures.value)

pub returns-clause-rows : goal.returns-clause-rows
returns-clause-rows c = rows_kept c.args.moves.now c.args.arcs.now.finish c.in-Some.state
    c.in_ok-row.row (get nat_eq c.args.rows.now) (get nat_eq c.keep_row.new.rows) c.requires.rows
    c.in_ok-keep_row.ensures c.in_ok-row.ensures

pub returns-clause-edges : goal.returns-clause-edges
returns-clause-edges c = adds_edges c.args.moves.now c.args.arcs.now.finish c.args.leads.now
    c.args.kept.now c.args.number c.in-Some.state c.in_ok-row.row.items c.args.edges.now.items
    c.add_moves_of.new.edges.items (sym c.get.ensures.value ∙ c.in-Some.is) c.in_ok-row.ensures
    (subst (λ (z : List ℕ). AddsWhere (IsMovedBy c.args.moves.now c.args.leads.now c.args.kept.now
    c.args.number z) c.args.edges.now.items c.add_moves_of.new.edges.items)
    c.as_slice.ensures.value c.in_ok-add_moves_of.ensures)
