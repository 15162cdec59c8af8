use Rattle.ap_chunk.proofs.Spans.{span_is_greatest}
use Rattle.ap_chunk.proofs.laws.span_is_greatest.Goals as goal

pub returns : goal.returns
returns c = span_is_greatest
