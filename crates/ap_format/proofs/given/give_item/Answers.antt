use Rattle.std.proofs.Common.{arith}
use Rattle.std.proofs.lemmas.List.{take_rest}
use Rattle.ap_stream.proofs.LimitLaws.{item_max_is}
use Rattle.ap_format.proofs.Plains.{item_short, item_wrote}
use Rattle.ap_format.proofs.given.give_item.Goals as goal

pub returns-clause-gives : goal.returns-clause-gives
returns-clause-gives c = λ _.
    item_wrote c.args.bytes.now c.blank_size-blank.result c.plain_size-size.result _ _ _
    c.blank_size-blank.ensures.blank c.blank_size-blank.ensures.within
    (let short = c.requires.short in omega (arith, short, item_max_is))
    (rw take_rest at (c.plain_size-size.ensures.plain (omega (arith, c.if-size-eq0.false))))
    (rw (c.in_ok-write_blank.ensures.ok, take_rest) at c.in_ok-write_plain.ensures)

pub returns-clause-short : goal.returns-clause-short
returns-clause-short c =
    item_short c.args.bytes.now c.blank_size-blank.result c.plain_size-size.result _ _
    c.blank_size-blank.ensures.within (rw take_rest at c.plain_size-size.ensures.within)
    (rw (c.in_ok-write_blank.ensures.ok, take_rest) at c.in_ok-write_plain.ensures)
