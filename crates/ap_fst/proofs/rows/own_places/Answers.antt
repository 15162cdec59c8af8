use Rattle.std.proofs.Common.{◌∙◌, ap, map, ◌++◌, List}
use Rattle.ap_fst.specs.Graphs.{arc_to}
use Rattle.ap_fst.specs.declared.graph.Arc.{Arc}
use Rattle.ap_fst.proofs.RowLaws.{own_row}
use Rattle.ap_fst.proofs.rows.own_places.Goals as goal

pub returns : goal.returns
returns c = own_row c.args.moves.now c.args.arcs.now c.args.state c.add_places.new.places.items
    c.requires.arcs c.requires.alone
    (c.in_ok-add_places.ensures ∙ ap (λ z. z ++ map arc_to c.loud_from.result.now)
    c.new-places.ensures.items ∙ ap (λ (z : List Arc). map arc_to z) c.loud_from.ensures)
