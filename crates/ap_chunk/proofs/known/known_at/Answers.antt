use Rattle.std.proofs.Common.{arith}
use Rattle.ap_chunk.specs.Known.{IsRowed}
use Rattle.ap_chunk.proofs.Keepings.{all_at}
use Rattle.ap_chunk.proofs.known.known_at.Goals as goal

pub returns-then-is_same-clause-rowed : goal.returns-then-is_same-clause-rowed
returns-then-is_same-clause-rowed c = λ given all.
    all_at (IsRowed given) c.args.units.now c.args.at c.index-units-at.result
    (omega (arith, c.if-at-units.false)) c.index-units-at.is all
