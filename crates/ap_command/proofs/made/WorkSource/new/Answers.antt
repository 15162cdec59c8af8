use Rattle.std.proofs.Common.{ap, Some, ◌-◌, arith}
use Rattle.ap_command.proofs.Making.{all-made}
use Rattle.ap_command.proofs.made.WorkSource.new.Goals as goal

pub returns-clause-left : goal.returns-clause-left
returns-clause-left c =
    ap Some (all-made c.args.sentences (c.args.sentences - 0) (omega arith))
