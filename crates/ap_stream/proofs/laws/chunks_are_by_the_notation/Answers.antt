use Rattle.ap_stream.proofs.ByNotation.{chunks_read, read_chunks, one_chunk}
use Rattle.ap_stream.proofs.laws.chunks_are_by_the_notation.Goals as goal

pub returns : goal.returns
returns c = record { read = chunks_read; written = read_chunks; one = one_chunk }
