use Rattle.ap_chunk.proofs.StagesKept.{transfer_is_read}
use Rattle.ap_chunk.proofs.laws.transfer_is_read.Goals as goal

pub returns : goal.returns
returns c = transfer_is_read
