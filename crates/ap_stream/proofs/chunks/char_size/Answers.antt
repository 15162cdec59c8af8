use Rattle.ap_stream.proofs.SignLaws as laws
use Rattle.ap_stream.proofs.chunks.char_size.Goals as goal

pub returns-in-Char-clause-most : goal.returns-in-Char-clause-most
returns-in-Char-clause-most c = (laws.whole_fits _ _ _ c.in-Char.ensures).1
