use Rattle.std.proofs.Common.{ap, sym, Ok}
use Rattle.ap_chunk.specs.Tests.{row_of}
use Rattle.ap_chunk.proofs.parts.put_row.Goals as goal

pub returns-then-branch-clause-row : goal.returns-then-branch-clause-row
returns-then-branch-clause-row c =
    c.in_ok-recall.ensures (row_of c.args.rules.now) c.requires (ap Ok c.if-branch.true)
    c.args.word.now c.symbols.ensures.proper (sym c.rendered.ensures)
