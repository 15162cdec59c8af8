use Rattle.ap_chunk.proofs.Keepings.{told_copy}
use Rattle.ap_chunk.proofs.kept.KeptRows.keep_copy.Goals as goal

pub returns : goal.returns
returns c = λ given told all. c.add.ensures given
    (told_copy given (record { key = c.in_ok-key.key; row = c.in_ok-row.row }) c.args.key.now
    c.args.row.now c.in_ok-key.ensures c.in_ok-row.ensures told) all
