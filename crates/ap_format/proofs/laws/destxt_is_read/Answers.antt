use Rattle.ap_stream.specs.declared.dialect.Dialect.TheVariants.{Raw}
use Rattle.ap_format.specs.Pieces.{pieces_of}
use Rattle.ap_format.proofs.Texts.{text_is_cut}
use Rattle.ap_format.proofs.ReadBack.{pieces_read, raw_open}
use Rattle.ap_format.proofs.laws.destxt_is_read.Goals as goal

pub returns : goal.returns
returns c = λ text e.
    (pieces_read Raw raw_open 0 text (pieces_of 0 text) (text_is_cut 0 text)).stop
