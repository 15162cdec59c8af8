use Rattle.std.proofs.Common.{List, take}
use Rattle.ap_symbol.specs.Lists.{IsIn}
use Rattle.ap_symbol.specs.Words.{AreProper}
use Rattle.ap_symbol.specs.declared.symbol.Symbol.{Symbol}
use Rattle.ap_compound.proofs.listing.words_are_proper.Given as goal

abbrev pub invariant-loop-word : goal.invariant-loop-word
invariant-loop-word l = (w : List Symbol) → IsIn w (take l.word-index l.words) → AreProper w
