use Rattle.std.proofs.Common.{◌∙◌, ap}
use Rattle.ap_chunk.specs.Tests.{row_of}
use Rattle.ap_chunk.proofs.parts.put_new_row.Goals as goal

pub returns-clause-rows : goal.returns-clause-rows
returns-clause-rows c =
    c.keep.ensures (row_of c.args.rules.now) (c.as_slice.ensures.value ∙ c.in_ok-row.ensures
    ∙ ap (row_of c.args.rules.now) c.symbols.ensures.symbols) c.requires
