use Rattle.std.proofs.Common.{sym}
use Rattle.ap_stream.proofs.Cut.{char_size}
use Rattle.ap_format.proofs.given.whole_size.Goals as goal

pub returns-in-Char-clause-whole : goal.returns-in-Char-clause-whole
returns-in-Char-clause-whole c = λ _. (c.in-Char.letter, sym c.in-Char.ensures)

pub returns-in-Char-clause-within : goal.returns-in-Char-clause-within
returns-in-Char-clause-within c = (char_size _ _ _ (sym c.in-Char.ensures)).1
