use Rattle.std.proofs.Common.{sym}
use Rattle.ap_compound.proofs.Unknowns.{other_lengths}
use Rattle.ap_compound.proofs.unknown.are_same.Goals as goal

pub returns-then-a-b : goal.returns-then-a-b
returns-then-a-b c = sym (other_lengths c.args.a.now c.args.b.now c.if-a-b.true)
