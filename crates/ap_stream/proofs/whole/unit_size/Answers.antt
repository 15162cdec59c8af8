use Rattle.std.proofs.Common.{arith, sym, ◌∙◌}
use Rattle.std.proofs.lemmas.List.{take_rest}
use Rattle.ap_stream.proofs.WholeUnits.{unit_in_piece}
use Rattle.ap_stream.proofs.whole.unit_size.Goals as goal

pub returns-clause-unit : goal.returns-clause-unit
returns-clause-unit c = λ some.
    let fits = c.if-end-bytes.false in
    unit_in_piece _ _ _ _ (sym c.is_byte.ensures ∙ c.if-not-is_byte.false)
    (sym c.has_units.ensures ∙ c.if-not-has_units.false)
    (rw take_rest at c.unit_run-count.ensures.crossing)
    (c.ends_unit.ensures c.if-not-ends_unit.false) (omega (arith, fits))
    (sym c.is_byte-else-end-bytes.ensures ∙ c.if-not-is_byte-2.false)
