use Rattle.std.proofs.Common.{◌≡◌, ◌++◌, drop}
use Rattle.ap_chunk.specs.Chunks.{content_text}
use Rattle.ap_chunk.proofs.chunks.write_content.Given as goal

abbrev pub invariant-loop-part : goal.invariant-loop-part
invariant-loop-part l = l.into ++ content_text (drop l.part-index l.parts) (drop l.at l.words)
    ≡ l.fn.into ++ content_text l.parts l.words
