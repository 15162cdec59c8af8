use Rattle.ap_stream.proofs.ChunkCut.{chunk_cut}
use Rattle.ap_stream.proofs.laws.chunks_can_be_written.Goals as goal

pub returns : goal.returns
returns c = λ text chunk n e. let k = chunk_cut text chunk n e in (k.name, k.parts)
