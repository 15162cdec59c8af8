use Rattle.std.proofs.Common.{◌≡◌, take}
use Rattle.std.specs.Prelude.{map}
use Rattle.ap_chunk.specs.Chunks.{fill_word, content_words, carry_words}
use Rattle.ap_chunk.proofs.chunks.words_of.Given as goal

abbrev pub invariant-loop-part : goal.invariant-loop-part
invariant-loop-part l = l.made
    ≡ carry_words l.case (map (fill_word l.tags) (content_words (take l.part-index l.parts)))
