use Rattle.ap_stream.proofs.UnitWords.{unit_is}
use Rattle.ap_stream.proofs.unit.Unit.from_bytes.Goals as goal

pub invariant_of-result : goal.invariant_of-result
invariant_of-result c = unit_is c.args.dialect c.args.bytes.items c.requires.0 c.requires.1

pub returns : goal.returns
returns c = unit_is c.args.dialect c.args.bytes.items c.requires.0 c.requires.1
