use Rattle.ap_stream.proofs.ReadOn.{pieces_read}
use Rattle.ap_stream.proofs.laws.pieces_are_read.Goals as goal

pub returns : goal.returns
returns c = pieces_read
