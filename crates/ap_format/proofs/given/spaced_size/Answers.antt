use Rattle.std.proofs.Common.{arith}
use Rattle.std.proofs.lemmas.List.{take_rest}
use Rattle.ap_stream.proofs.LimitLaws.{item_max_is}
use Rattle.ap_format.proofs.Plains.{spaced_gives}
use Rattle.ap_format.proofs.given.spaced_size.Goals as goal

pub returns-clause-gives : goal.returns-clause-gives
returns-clause-gives c = λ _.
    spaced_gives c.args.bytes.now c.white_size-white.result c.bare_size-size.result
    c.white_size-white.ensures.value (omega (arith, c.if-white-eq0.false))
    (let short = c.requires.short in omega (arith, short, item_max_is))
    c.white_size-white.ensures.within
    (rw take_rest at (c.bare_size-size.ensures.plain (omega (arith, c.if-size-eq0.false))))
