use Rattle.ap_stream.proofs.ByNotation.{units_read, read_units, one_unit}
use Rattle.ap_stream.proofs.laws.units_are_by_the_notation.Goals as goal

pub returns : goal.returns
returns c = record { read = units_read; written = read_units; one = one_unit }
