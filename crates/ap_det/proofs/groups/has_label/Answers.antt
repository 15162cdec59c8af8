use Rattle.std.proofs.Common.{sym, ap, ◌∙◌, is_eq}
use Rattle.ap_det.specs.Exits.{edge_at}
use Rattle.ap_det.proofs.Grouping.{label_told}
use Rattle.ap_det.proofs.groups.has_label.Goals as goal

pub returns-in-Some : goal.returns-in-Some
returns-in-Some c = label_told (edge_at c.args.edges.now c.args.places.now) c.args.number
    c.in-Some.edge.now c.args.label.now c.is_eq.result (sym c.in-Some.ensures)
    (c.is_eq.ensures ∙ ap is_eq c.compare_labels.ensures)
