use Rattle.std.proofs.Common.{arith}
use Rattle.ap_command.proofs.Numbers.{run-short}
use Rattle.ap_command.proofs.words.read_run.Goals as goal

pub returns-in-len1-clause-command : goal.returns-in-len1-clause-command
returns-in-len1-clause-command c =
    run-short c.args.words.now (omega (arith, c.in-len1.len_below))
