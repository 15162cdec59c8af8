use Rattle.std.proofs.Common.{◌≡◌, ◌++◌, take}
use Rattle.ap_dix.proofs.words.add_characters.Given as goal

abbrev pub invariant-text : goal.invariant-text
invariant-text l = l.made ≡ l.fn.made ++ take l.c-index l.text
