use Rattle.std.proofs.Common.{◌≡◌, ◌++◌, take, map}
use Rattle.ap_chunk.specs.Matches.{shown_word}
use Rattle.ap_chunk.proofs.matches.push_words.Given as goal

abbrev pub invariant-loop-word : goal.invariant-loop-word
invariant-loop-word l = l.into.items ≡ l.fn.into.items
    ++ map shown_word (take l.word-index l.words)
