use Rattle.std.proofs.Common.{arith, sym, ◌∙◌}
use Rattle.std.proofs.lemmas.List.{take_rest}
use Rattle.ap_format.proofs.Plains.{plain_bare, plain_escaped, some_bytes}
use Rattle.ap_format.proofs.given.plain_size.Goals as goal

pub returns-then-bytes-ne92-clause-plain : goal.returns-then-bytes-ne92-clause-plain
returns-then-bytes-ne92-clause-plain c = λ some.
    plain_bare c.args.bytes.now c.bare_size.result c.if-bytes-ne92.true
    (c.bare_size.ensures.plain some)

pub returns-clause-plain : goal.returns-clause-plain
returns-clause-plain c = λ _.
    plain_escaped c.args.bytes.now c.whole_size-size.result
    (some_bytes _ (sym c.is_empty.ensures ∙ c.if-is_empty.false)) c.if-bytes-ne92.false
    (rw take_rest at (c.whole_size-size.ensures.whole (omega (arith, c.if-size-eq0.false))))
