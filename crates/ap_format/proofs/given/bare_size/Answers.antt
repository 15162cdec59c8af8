use Rattle.std.proofs.Common.{sym, ◌∙◌}
use Rattle.ap_stream.proofs.Cut.{char_size}
use Rattle.ap_format.proofs.Plains.{plain_at, plain_low}
use Rattle.ap_format.proofs.given.bare_size.Goals as goal

pub returns-then-is_bare_byte-clause-plain : goal.returns-then-is_bare_byte-clause-plain
returns-then-is_bare_byte-clause-plain c = λ _.
    plain_low c.args.bytes.now c.requires c.if-bytes-lt128.true
    (sym c.is_bare_byte.ensures ∙ c.if-is_bare_byte.true)

pub returns-then-is_bare-clause-plain : goal.returns-then-is_bare-clause-plain
returns-then-is_bare-clause-plain c = λ _.
    plain_at c.args.bytes.now c.in-Char.letter c.in-Char.size (sym c.in-Char.ensures)
    (sym c.is_bare.ensures ∙ c.if-is_bare.true)

pub returns-then-is_bare-clause-within : goal.returns-then-is_bare-clause-within
returns-then-is_bare-clause-within c = (char_size _ _ _ (sym c.in-Char.ensures)).1
