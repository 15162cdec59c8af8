use Rattle.std.proofs.Common.{◌∙◌, ap, sym, List, ℕ}
use Rattle.ap_binary.specs.Pieces.{is_numeral, IsShort}
use Rattle.ap_binary.proofs.ShortNumbers.{number_bad, number_read, short_within}
use Rattle.ap_binary.proofs.pieces.number.Goals as goal

pub split_at-requires : goal.split_at-requires
split_at-requires c = short_within c.args.bytes.now c.in-Some.value c.in-Some.len
    (c.short_number.ensures c.in-Some.value c.in-Some.len c.in-Some.is)

pub returns-then-is_numeral-clause-gives : goal.returns-then-is_numeral-clause-gives
returns-then-is_numeral-clause-gives c =
    number_read c.args.bytes.now c.split_at.result.1.now c.in-Some.value c.in-Some.len
    (c.short_number.ensures c.in-Some.value c.in-Some.len c.in-Some.is)
    (ap is_numeral (sym c.split_at.ensures.front) ∙ sym c.is_numeral.ensures ∙ c.if-is_numeral.true)
    c.split_at.ensures.back

pub returns-else-is_numeral-clause-gives : goal.returns-else-is_numeral-clause-gives
returns-else-is_numeral-clause-gives c =
    number_bad c.args.bytes.now c.in-Some.value c.in-Some.len
    (c.short_number.ensures c.in-Some.value c.in-Some.len c.in-Some.is)
    (ap is_numeral (sym c.split_at.ensures.front) ∙ sym c.is_numeral.ensures ∙ c.if-is_numeral.false)
