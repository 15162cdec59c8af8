use Rattle.std.proofs.Common.{◌≡◌, take}
use Rattle.ap_chunk.specs.Chunks.{fill_word}
use Rattle.ap_chunk.proofs.chunks.fill_word.Given as goal

abbrev pub invariant-loop-symbol : goal.invariant-loop-symbol
invariant-loop-symbol l = l.made ≡ fill_word l.tags (take l.symbol-index l.word)
