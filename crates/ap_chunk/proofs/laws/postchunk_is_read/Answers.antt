use Rattle.ap_chunk.proofs.StagesKept.{postchunk_is_read}
use Rattle.ap_chunk.proofs.laws.postchunk_is_read.Goals as goal

pub returns : goal.returns
returns c = postchunk_is_read
