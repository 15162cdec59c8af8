use Rattle.std.proofs.Common.{refl}
use Rattle.ap_command.specs.Rows.{AnalysesAlone, Explains}
use Rattle.ap_command.proofs.Flowing.{two-row-of}
use Rattle.ap_command.proofs.rows.compound_row.Goals as goal

pub returns-clause-row : goal.returns-clause-row
returns-clause-row c = λ said kept.
    two-row-of (AnalysesAlone said c.args.sensitive) (Explains said c.args.sensitive)
    c.in_ok-row.row c.push.new.self c.in_ok-analysis.analysis c.in_ok-compounds.compounds
    c.in_ok-row.ensures c.in_ok-push.ensures.added refl
    (c.in_ok-analysis.ensures.stage said kept) (c.in_ok-compounds.ensures.stage said kept)
