use Rattle.std.proofs.Common.{◌∙◌, sym}
use Rattle.std.proofs.lemmas.Bool.{not-true}
use Rattle.ap_stream.proofs.SpelledUnits.{spelled_unit}
use Rattle.ap_stream.proofs.plain.is_spelled.Goals as goal

pub returns-then-not-is_surfaced : goal.returns-then-not-is_surfaced
returns-then-not-is_surfaced c =
    λ plain. spelled_unit c.args.dialect c.args.held.now c.requires.0 c.requires.1
    (sym c.is_surfaced.ensures ∙ c.if-not-is_surfaced.true)
    (sym c.has_odd.ensures ∙ not-true c.has_odd.result plain)
