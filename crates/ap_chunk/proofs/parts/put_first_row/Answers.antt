use Rattle.std.proofs.Common.{◌∙◌, ap, Ok}
use Rattle.ap_chunk.specs.Tests.{row_of}
use Rattle.ap_chunk.proofs.parts.put_first_row.Goals as goal

pub returns-then-branch-clause-row : goal.returns-then-branch-clause-row
returns-then-branch-clause-row c =
    c.in_ok-recall_first.ensures (row_of c.args.rules.now) c.requires (ap Ok c.if-branch.true)

pub returns-clause-units : goal.returns-clause-units
returns-clause-units c =
    c.keep_unit.ensures.units (row_of c.args.rules.now)
    (c.in_ok-row.ensures ∙ ap (row_of c.args.rules.now) c.symbols.ensures.symbols) c.requires
