use Rattle.std.proofs.Common.{sym, ap, ◌∙◌, rules, Some}
use Rattle.ap_fst.proofs.OrderLaws.{label_equal, is_equal}
use Rattle.ap_fst.proofs.rows.has_label_of.Goals as goal

pub returns : goal.returns
returns c = λ t. c.in-Some.is ∙ ap Some (label_equal c.in-Some.label c.in-Some-label.other
    (sym c.compare_labels.ensures ∙ is_equal c.compare_labels.result (search rules)))
    ∙ sym c.in-Some-label.is
