use Rattle.ap_chunk.proofs.UnitWords.{found_unit, found_row}
use Rattle.ap_chunk.proofs.known.KnownUnits.known.Goals as goal

pub returns-in-Some-clause-read : goal.returns-in-Some-clause-read
returns-in-Some-clause-read c = found_unit (λ known. known.now) c.in-Some.key.now c.args.unit.now
    c.in-Some.ensures c.find.result c.find.ensures.keyed

pub returns-in-Some-clause-rowed : goal.returns-in-Some-clause-rowed
returns-in-Some-clause-rowed c = λ given all.
    found_row (λ known. known.now) given c.in-Some.key.now c.args.unit.now
    c.in-Some.ensures c.find.result c.find.ensures.keyed (c.find.ensures.rowed given all)
