use Rattle.std.specs.Prelude.{List}
use Rattle.ap_symbol.specs.declared.symbol.Symbol.{Symbol}
use Rattle.ap_exec.specs.declared.lent.Held.{Held}
use Rattle.ap_exec.specs.declared.lent.Held.TheVariants.{Lent, Known, Made}

abbrev pub word_in : Held → List Symbol
word_in (Lent word) = word.now
word_in (Known word) = word.now
word_in (Made word) = word
