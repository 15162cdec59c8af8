use Rattle.ap_chunk.proofs.StagesKept.{interchunk_is_read}
use Rattle.ap_chunk.proofs.laws.interchunk_is_read.Goals as goal

pub returns : goal.returns
returns c = interchunk_is_read
