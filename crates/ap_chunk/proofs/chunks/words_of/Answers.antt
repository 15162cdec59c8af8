use Rattle.ap_chunk.proofs.ChunkWords.{one_part_more}
use Rattle.ap_chunk.proofs.chunks.words_of.Goals as goal

pub loop-part-preserved : goal.loop-part-preserved
loop-part-preserved c =
    one_part_more c.args.case c.args.tags.now c.args.parts.now c.loop-part.part-index
    c.part-item.result c.loop-part.made c.push_part.new.into c.loop-part-test.true
    c.part-item.is c.loop-part.invariant c.in_ok-push_part.ensures
