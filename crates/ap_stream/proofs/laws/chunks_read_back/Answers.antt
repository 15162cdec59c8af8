use Rattle.ap_stream.proofs.ChunkCut.{chunk_back}
use Rattle.ap_stream.proofs.laws.chunks_read_back.Goals as goal

pub returns : goal.returns
returns c = chunk_back
