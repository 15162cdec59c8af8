use Rattle.ap_chunk.proofs.Keepings.{told_word}
use Rattle.ap_chunk.proofs.kept.KeptRows.keep.Goals as goal

pub returns : goal.returns
returns c = λ given is all. c.keep_copy.ensures given
    (told_word c.one_rendering.ensures given c.args.word.now c.rendered.result.now c.args.row.now
    c.symbols.ensures.proper c.rendered.ensures is) all
