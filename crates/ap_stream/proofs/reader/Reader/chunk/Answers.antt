use Rattle.ap_stream.proofs.InChunkLaws as chunks
use Rattle.ap_stream.proofs.LimitedLaws as limited
use Rattle.ap_stream.proofs.reader.Reader.chunk.Goals as goal

pub give-requires-clause-whole : goal.give-requires-clause-whole
give-requires-clause-whole c =
    limited.chunk_surely _ _ _ (rw (← c.self.view_is) at c.requires.short)
    (chunks.chunk_always _ _ _ (rw (← c.self.view_is) at c.requires.chunks)
    (rw c.as_slice.ensures.value at c.in-Ok.ensures))
