use Rattle.std.proofs.Common.{ap, sym, ◌∙◌}
use Rattle.ap_stream.specs.Chars.{front_of}
use Rattle.ap_stream.proofs.Copied.{is_common_at}
use Rattle.ap_stream.proofs.Cut.{char_size}
use Rattle.ap_stream.proofs.copying.common_size.Goals as goal

pub returns-then-is_common-clause-most : goal.returns-then-is_common-clause-most
returns-then-is_common-clause-most c =
    (char_size c.args.bytes.now c.in-Char.letter c.in-Char.size
    (sym c.decode.ensures ∙ ap front_of c.in-Char.is)).1

pub returns-then-is_common-clause-common : goal.returns-then-is_common-clause-common
returns-then-is_common-clause-common c = λ _.
    is_common_at c.args.bytes.now c.in-Char.letter c.in-Char.size
    (sym c.decode.ensures ∙ ap front_of c.in-Char.is)
    (sym c.is_common.ensures ∙ c.if-is_common.true)
