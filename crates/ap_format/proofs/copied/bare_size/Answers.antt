use Rattle.std.proofs.Common.{sym, ◌∙◌}
use Rattle.ap_stream.proofs.Cut.{char_size}
use Rattle.ap_format.proofs.Bare.{bare_ascii, bare_high}
use Rattle.ap_format.proofs.copied.bare_size.Goals as goal

pub returns-then-is_plain-clause-bare : goal.returns-then-is_plain-clause-bare
returns-then-is_plain-clause-bare c = λ _.
    bare_ascii c.args.bytes.now c.requires c.if-bytes-lt128.true
    (sym c.is_plain.ensures ∙ c.if-is_plain.true)

pub returns-in-Char-clause-bare : goal.returns-in-Char-clause-bare
returns-in-Char-clause-bare c = λ _.
    bare_high _ _ _ (sym c.in-Char.ensures) c.requires c.if-bytes-lt128.false

pub returns-in-Char-clause-within : goal.returns-in-Char-clause-within
returns-in-Char-clause-within c = (char_size _ _ _ (sym c.in-Char.ensures)).1
