use Rattle.std.proofs.Common.{refl, ap, subst, map, ◌++◌, ◌∙◌, List}
use Rattle.ap_fst.specs.Graphs.{arc_to, Grows}
use Rattle.ap_fst.specs.Covering.{by_row, by_arcs}
use Rattle.ap_fst.specs.declared.graph.Arc.{Arc}
use Rattle.ap_fst.proofs.rows.go_on.Goals as goal

pub returns-in-Some : goal.returns-in-Some
returns-in-Some c = by_row c.in-Some.row.now c.in-Some.ensures refl
    (c.in_ok-extend_from_slice.ensures.items ∙ ap (λ z. c.args.places.now.items ++ z)
    c.as_slice.ensures.value)

pub returns : goal.returns
returns c = by_arcs
    (subst (λ (z : List Arc). Grows c.args.near.now (map arc_to z) c.add_targets.new.set)
    c.quiet_from.ensures c.in_ok-add_targets.ensures)
    (c.in_ok-add_places.ensures ∙ ap (λ (z : List Arc). c.args.places.now.items ++ map arc_to z)
    c.loud_from.ensures)
