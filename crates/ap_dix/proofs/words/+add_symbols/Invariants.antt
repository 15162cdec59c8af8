use Rattle.std.proofs.Common.{◌≡◌, ◌++◌, drop}
use Rattle.ap_markup.specs.View.{parts_of}
use Rattle.ap_dix.specs.WordText.{symbols}
use Rattle.ap_dix.proofs.words.+add_symbols.Given as goal

abbrev pub invariant-parts : goal.invariant-parts
invariant-parts l = l.word ++ symbols (parts_of (drop l.part-index l.parts)) ≡ l.fn.word
    ++ symbols (parts_of l.parts)
