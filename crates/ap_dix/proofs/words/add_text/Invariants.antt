use Rattle.std.proofs.Common.{◌≡◌, ◌++◌, take}
use Rattle.ap_dix.specs.WordText.{letters}
use Rattle.ap_dix.proofs.words.add_text.Given as goal

abbrev pub invariant-text : goal.invariant-text
invariant-text l = l.word ≡ l.fn.word ++ letters (take l.c-index l.text)
