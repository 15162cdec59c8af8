use Rattle.std.proofs.Common.{◌≡◌, ◌+◌, drop}
use Rattle.ap_chunk.specs.Tests.{first_tag}
use Rattle.ap_chunk.proofs.words.first_tag.Given as goal

abbrev pub invariant-loop-at : goal.invariant-loop-at
invariant-loop-at l = first_tag l.word ≡ l.at + first_tag (drop l.at l.word)
