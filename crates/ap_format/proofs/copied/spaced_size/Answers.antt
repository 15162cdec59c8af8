use Rattle.std.proofs.Common.{arith}
use Rattle.std.proofs.lemmas.List.{take_rest}
use Rattle.ap_format.proofs.Bare.{spaced_front}
use Rattle.ap_format.proofs.copied.spaced_size.Goals as goal

pub returns-clause-copied : goal.returns-clause-copied
returns-clause-copied c = λ _.
    spaced_front c.args.bytes.now c.bare_size-size.result c.requires c.if-bytes-ne32.false
    (omega (arith, c.if-size-eq0.false))
    (rw take_rest at c.bare_size-size.ensures.within)
    (rw take_rest at (c.bare_size-size.ensures.bare (omega (arith, c.if-size-eq0.false))))
